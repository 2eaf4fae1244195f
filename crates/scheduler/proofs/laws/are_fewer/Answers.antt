use Rattle.scheduler.proofs.Gnos.{are_fewer}
use Rattle.scheduler.proofs.laws.are_fewer.Goals as goal

pub returns : goal.returns
returns c = are_fewer
