use Rattle.std.proofs.Common.{refl, arith}
use Rattle.rows.proofs.RowShape.{is_row}
use Rattle.rows.proofs.Row.new.Goals as goal

pub invariant_of-result : goal.invariant_of-result
invariant_of-result c = is_row c.args.columns.now _ _ refl c.copy_from_slice.ensures.after (grind arith) (omega arith)
