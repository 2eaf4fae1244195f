use Rattle.replica_shared.proofs.Queues.{pushes}
use Rattle.replica_shared.proofs.queue.Jobs.push.Goals as goal

pub push_as-requires-clause-rule : goal.push_as-requires-clause-rule
push_as-requires-clause-rule g c = pushes _ _ c.args.job c.requires.pushes c.requires.rises
