use Rattle.executor.proofs.Sets.{tells_sets}
use Rattle.executor.proofs.Elsewhere.{output_is_good}
use Rattle.executor.proofs.laws.outputs.Goals as goal

pub returns-clause-sets : goal.returns-clause-sets
returns-clause-sets c = tells_sets

pub returns-clause-good : goal.returns-clause-good
returns-clause-good c = output_is_good
