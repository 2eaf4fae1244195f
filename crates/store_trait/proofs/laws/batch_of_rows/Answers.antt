use Rattle.store_trait.proofs.Batches.{has_the_rows}
use Rattle.store_trait.proofs.laws.batch_of_rows.Goals as goal

pub returns : goal.returns
returns c = has_the_rows
