use Rattle.std.proofs.Common.{refl, arith}
use Rattle.rows.proofs.NamedShape.{is_named}
use Rattle.rows.proofs.naming.Named.new.Goals as goal

pub invariant_of-result : goal.invariant_of-result
invariant_of-result c =
    is_named c.args.mask c.args.values.now _ _ refl c.copy_from_slice.ensures.after (grind arith) (grind arith) (grind arith)
