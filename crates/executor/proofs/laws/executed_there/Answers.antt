use Rattle.executor.proofs.Elsewhere.{output_is_there, good_has_output, fault_is_there}
use Rattle.executor.proofs.laws.executed_there.Goals as goal

pub returns-clause-output : goal.returns-clause-output
returns-clause-output c = output_is_there

pub returns-clause-good : goal.returns-clause-good
returns-clause-good c = good_has_output

pub returns-clause-fault : goal.returns-clause-fault
returns-clause-fault c = fault_is_there
