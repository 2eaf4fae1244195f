use Rattle.gapped.proofs.Legally.{legal_is_gapped}
use Rattle.replica_core.proofs.Showing.{published_is_gapped}
use Rattle.replica_core.proofs.laws.gapped.Goals as goal

pub returns : goal.returns
returns c = record { published = published_is_gapped; legal = legal_is_gapped }
