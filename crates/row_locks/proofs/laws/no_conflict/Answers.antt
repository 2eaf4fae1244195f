use Rattle.row_locks.proofs.Holders.{holders_do_not_conflict}
use Rattle.row_locks.proofs.laws.no_conflict.Goals as goal

pub returns : goal.returns
returns c = holders_do_not_conflict
