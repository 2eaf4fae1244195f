use Rattle.replica_shared.proofs.Queues.{begins}
use Rattle.replica_shared.proofs.queue.Jobs.new.Goals as goal

pub new_as-requires : goal.new_as-requires
new_as-requires c = begins
