use Rattle.replica_shared.proofs.Told.{tells_stop}
use Rattle.replica_shared.proofs.shared.SharedReplica.wait_for_each.Goals as goal

pub returns-clause-stop : goal.returns-clause-stop
returns-clause-stop g c = tells_stop _ _ _ c.coordinator.result.now _ c.notice-notice.ensures.stopped
