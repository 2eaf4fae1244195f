use Rattle.store_trait.proofs.Batches.{get-put_batch}
use Rattle.store_trait.proofs.laws.batch_sets_its_rows.Goals as goal

pub returns : goal.returns
returns c = get-put_batch
