use Rattle.replica_shared.proofs.Known.{load_is_known}
use Rattle.tests_threads.proofs.replicas.shared.Goals as goal

pub open-requires-clause-known : goal.open-requires-clause-known
open-requires-clause-known g c = load_is_known g.J.ReplicaNaming.names _ _ _ c.requires.core.3 c.requires.core.2
