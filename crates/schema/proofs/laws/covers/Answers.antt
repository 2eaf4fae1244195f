use Rattle.schema.proofs.Covers.{covers_by_sets}
use Rattle.schema.proofs.laws.covers.Goals as goal

pub returns-clause-by_sets : goal.returns-clause-by_sets
returns-clause-by_sets c = covers_by_sets
