use Rattle.row_locks.proofs.OneSession.{held_as_listed}
use Rattle.row_locks.proofs.laws.also_held.Goals as goal

pub returns : goal.returns
returns c = held_as_listed
