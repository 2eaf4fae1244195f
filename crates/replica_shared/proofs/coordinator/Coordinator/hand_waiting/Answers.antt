use Rattle.replica_core.proofs.Handing.{hands_on_grow}
use Rattle.replica_shared.proofs.Known.{hands_of_log}
use Rattle.replica_shared.proofs.Feeding.{same_core, words_rise, whole_grown, whole_same}
use Rattle.replica_shared.proofs.coordinator.Coordinator.hand_waiting.Goals as goal

pub store_words-requires : goal.store_words-requires
store_words-requires g c = words_rise _ _ c.self.inside.status.stored (hands_on_grow _ _ _ _ _ c.hand-handed.ensures.hands) c.self.invariant.stand.words

pub invariant_of-self : goal.invariant_of-self
invariant_of-self g c =
    let hands = c.hand-handed.ensures.hands in
    whole_grown c.self.invariant (hands_on_grow _ _ _ _ _ hands) (hands_of_log _ _ _ _ _ _ hands c.requires.known c.self.invariant.stand.of_log)
    c.store_words.ensures.sound c.store_words.ensures.stored

pub invariant_of-self-else-before-received : goal.invariant_of-self-else-before-received
invariant_of-self-else-before-received g c =
    whole_same c.self.invariant (same_core _ _ _ _ (hands_on_grow _ _ _ _ _ c.hand-handed.ensures.hands) c.received-before.ensures c.received.ensures c.if-before-received.false)
