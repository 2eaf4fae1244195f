use Rattle.replica_core.proofs.Handing.{nothing_taken, takes_on}
use Rattle.replica_core.proofs.laws.wires.Goals as goal

pub returns-clause-nothing : goal.returns-clause-nothing
returns-clause-nothing c = nothing_taken

pub returns-clause-goes_on : goal.returns-clause-goes_on
returns-clause-goes_on c = takes_on
