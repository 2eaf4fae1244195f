use Rattle.row_locks.proofs.Tied.{nothing_held}
use Rattle.row_locks.proofs.laws.new_table.Goals as goal

pub returns : goal.returns
returns c = nothing_held
