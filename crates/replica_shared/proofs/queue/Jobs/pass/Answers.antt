use Rattle.replica_shared.proofs.Queues.{admits}
use Rattle.replica_shared.proofs.queue.Jobs.pass.Goals as goal

pub pass-requires : goal.pass-requires
pass-requires c = admits
