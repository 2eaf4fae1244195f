use Rattle.store_trait.proofs.Batches.{left_by-append}
use Rattle.store_trait.proofs.laws.operations_go_on.Goals as goal

pub returns : goal.returns
returns c = left_by-append
