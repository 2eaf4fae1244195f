use Rattle.store_trait.proofs.Batches.{put_batch-writes}
use Rattle.store_trait.proofs.laws.batch_carries_changes.Goals as goal

pub returns : goal.returns
returns c = put_batch-writes
