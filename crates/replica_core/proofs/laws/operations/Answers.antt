use Rattle.replica_core.proofs.Commits.{operations_leave_rows}
use Rattle.replica_core.proofs.laws.operations.Goals as goal

pub returns : goal.returns
returns c = operations_leave_rows
