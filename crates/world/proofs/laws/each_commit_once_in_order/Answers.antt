use Rattle.world.proofs.LawsRuns.{in_log_order}
use Rattle.world.proofs.laws.each_commit_once_in_order.Goals as goal

pub returns : goal.returns
returns c = in_log_order
