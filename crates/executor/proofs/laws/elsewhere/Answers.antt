use Rattle.executor.proofs.Elsewhere.{good_does_the_same, good_elsewhere}
use Rattle.executor.proofs.laws.elsewhere.Goals as goal

pub returns-clause-same : goal.returns-clause-same
returns-clause-same c = good_does_the_same

pub returns-clause-good : goal.returns-clause-good
returns-clause-good c = good_elsewhere
