use Rattle.replica_shared.proofs.Queues.{steals}
use Rattle.replica_shared.proofs.queue.Jobs.try_steal.Goals as goal

pub steal_as-requires-clause-rule : goal.steal_as-requires-clause-rule
steal_as-requires-clause-rule g c = (steals _ _, λ _ _ _. tt)
