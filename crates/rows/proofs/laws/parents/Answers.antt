use Rattle.rows.proofs.Effect.{children_keep_parents}
use Rattle.rows.proofs.laws.parents.Goals as goal

pub returns : goal.returns
returns c = children_keep_parents
