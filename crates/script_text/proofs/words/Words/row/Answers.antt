use Rattle.std.proofs.Common.{arith}
use Rattle.script_text.proofs.WordLists.{no_row}
use Rattle.script_text.proofs.words.Words.row.Goals as goal

pub returns-in_err-count : goal.returns-in_err-count
returns-in_err-count c = rw c.from_residual.ensures (no_row c.args.self _ (omega arith) c.in_err-count.ensures)
