use Rattle.store_trait.proofs.Batches.{loads_all}
use Rattle.store_trait.proofs.laws.batch_loads_all.Goals as goal

pub returns : goal.returns
returns c = loads_all
