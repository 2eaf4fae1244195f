use Rattle.schema.proofs.Covers.{covers_at_end}
use Rattle.schema.proofs.laws.greater_parents.Goals as goal

pub returns-clause-at_end : goal.returns-clause-at_end
returns-clause-at_end c = covers_at_end
