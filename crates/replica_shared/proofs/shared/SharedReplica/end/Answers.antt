use Rattle.replica_shared.proofs.Standing.{published_is, published_in_order, published_within}
use Rattle.replica_shared.proofs.shared.SharedReplica.end.Goals as goal

pub returns-clause-published : goal.returns-clause-published
returns-clause-published g c = published_is c.end.ensures.together.stand

pub returns-clause-in_order : goal.returns-clause-in_order
returns-clause-in_order g c kept = published_in_order c.end.ensures.together.stand kept

pub returns-clause-within : goal.returns-clause-within
returns-clause-within g c = published_within c.end.ensures.together.stand

pub returns-clause-accepted : goal.returns-clause-accepted
returns-clause-accepted g c = c.end.ensures.together.stand.of_log

pub returns-clause-keeps : goal.returns-clause-keeps
returns-clause-keeps g c = c.end.ensures.together.stand.named.4
