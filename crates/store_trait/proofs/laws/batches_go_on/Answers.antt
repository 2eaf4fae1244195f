use Rattle.store_trait.proofs.Batches.{put_batches-append}
use Rattle.store_trait.proofs.laws.batches_go_on.Goals as goal

pub returns : goal.returns
returns c = put_batches-append
