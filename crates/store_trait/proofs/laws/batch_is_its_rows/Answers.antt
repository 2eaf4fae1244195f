use Rattle.store_trait.proofs.Batches.{same_batch}
use Rattle.store_trait.proofs.laws.batch_is_its_rows.Goals as goal

pub returns : goal.returns
returns c = same_batch
