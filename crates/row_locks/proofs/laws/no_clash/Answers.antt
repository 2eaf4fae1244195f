use Rattle.row_locks.proofs.OneSession.{holders_share}
use Rattle.row_locks.proofs.laws.no_clash.Goals as goal

pub returns : goal.returns
returns c = holders_share
