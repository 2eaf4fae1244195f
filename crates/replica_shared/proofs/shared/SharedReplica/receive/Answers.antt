use Rattle.replica_shared.proofs.Receiving.{refuses_foreign, refuses_no_own}
use Rattle.replica_shared.proofs.shared.SharedReplica.receive.Goals as goal

pub returns-clause-answer : goal.returns-clause-answer
returns-clause-answer g c = record {
  before = c.coordinator.result.now.core;
  named = c.receive-answer.ensures.named;
  told = c.receive-answer.ensures.answer;
  memory = c.receive-answer.ensures.memory;
}

pub returns-clause-foreign : goal.returns-clause-foreign
returns-clause-foreign g c = refuses_foreign (returns-clause-answer g c)

pub returns-clause-own : goal.returns-clause-own
returns-clause-own g c = refuses_no_own (returns-clause-answer g c)
