use Rattle.world.proofs.LawsRuns.{operations_leave}
use Rattle.world.proofs.laws.operations_leave_rows.Goals as goal

pub returns : goal.returns
returns c = operations_leave
