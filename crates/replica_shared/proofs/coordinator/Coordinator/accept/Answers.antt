use Rattle.replica_shared.proofs.Feeding.{receive_grows, whole_grown}
use Rattle.replica_shared.proofs.Known.{received_of_log}
use Rattle.replica_shared.proofs.coordinator.Coordinator.accept.Goals as goal

pub invariant_of-self-then-eq : goal.invariant_of-self-then-eq
invariant_of-self-then-eq g c =
    whole_grown c.self.invariant (receive_grows _ _ _ _ c.in_ok-answer.ensures.ok)
    (received_of_log _ _ _ _ _ _ c.in_ok-answer.ensures.answer c.in_ok-answer.ensures.ok c.requires.known c.self.invariant.stand.of_log) c.store_words.ensures.sound c.store_words.ensures.stored
