use Rattle.executor.proofs.Handed.{handed_agrees, agrees_without_unique}
use Rattle.executor.proofs.laws.agrees.Goals as goal

pub returns-clause-handed : goal.returns-clause-handed
returns-clause-handed c = handed_agrees

pub returns-clause-without_unique : goal.returns-clause-without_unique
returns-clause-without_unique c = agrees_without_unique
