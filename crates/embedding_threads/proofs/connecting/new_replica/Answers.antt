use Rattle.replica_shared.proofs.Known.{load_is_known}
use Rattle.embedding_threads.proofs.connecting.new_replica.Goals as goal

pub open-requires-clause-known : goal.open-requires-clause-known
open-requires-clause-known g c = load_is_known g.K.ReplicaNaming.names _ _ _ c.requires.3 c.requires.2
