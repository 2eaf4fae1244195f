use Rattle.replica_shared.proofs.Known.{load_is_known}
use Rattle.tests_pair.proofs.tests.one_thread.over_both.Goals as goal

pub open-opened-requires-clause-known : goal.open-opened-requires-clause-known
open-opened-requires-clause-known g c = load_is_known g.K.ReplicaNaming.names _ _ _ c.requires.replica.3 c.requires.replica.2
