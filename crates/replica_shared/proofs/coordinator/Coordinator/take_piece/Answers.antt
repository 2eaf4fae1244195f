use Rattle.replica_core.proofs.Handing.{takes_grow}
use Rattle.replica_shared.proofs.Known.{takes_of_log}
use Rattle.replica_shared.proofs.Feeding.{same_core, words_rise, whole_grown, whole_same}
use Rattle.replica_shared.proofs.coordinator.Coordinator.take_piece.Goals as goal

pub store_words-requires : goal.store_words-requires
store_words-requires g c = words_rise _ _ c.self.inside.status.stored (takes_grow _ _ _ _ _ _ c.take-taken.ensures) c.self.invariant.stand.words

pub invariant_of-self : goal.invariant_of-self
invariant_of-self g c =
    let takes = c.take-taken.ensures in
    whole_grown c.self.invariant (takes_grow _ _ _ _ _ _ takes) (takes_of_log _ _ _ _ _ _ _ takes c.requires.known c.self.invariant.stand.of_log)
    c.store_words.ensures.sound c.store_words.ensures.stored

pub invariant_of-self-else-before-received : goal.invariant_of-self-else-before-received
invariant_of-self-else-before-received g c =
    whole_same c.self.invariant (same_core _ _ _ _ (takes_grow _ _ _ _ _ _ c.take-taken.ensures) c.received-before.ensures c.received.ensures c.if-before-received.false)
