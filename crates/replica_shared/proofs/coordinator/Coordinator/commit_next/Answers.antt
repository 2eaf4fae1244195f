use Rattle.std.proofs.Common.{◌∙◌, ap, subst}
use Rattle.replica_core.specs.Sound.{IsSound}
use Rattle.replica_shared.specs.Together.{State, words_of}
use Rattle.replica_shared.proofs.Standing.{left_committed, words_committed}
use Rattle.replica_shared.proofs.Stops.{runs_where_ok}
use Rattle.replica_shared.proofs.Whole.{whole_committed}
use Rattle.replica_shared.proofs.coordinator.Coordinator.commit_next.Goals as goal

pub store_words-requires : goal.store_words-requires
store_words-requires g c =
    let left = left_committed c.self.inside.core _ _ c.if-is_some.ensures c.in_ok-next.ensures.ok in
    words_committed c.self.inside.core _ left.0 c.self.inside.status.stored left.1 c.self.invariant.stand.words

pub invariant_of-self-then-is_some : goal.invariant_of-self-then-is_some
invariant_of-self-then-is_some g c =
    let was = c.self.inside.core in
    let left = left_committed was _ _ c.if-is_some.ensures c.in_ok-next.ensures.ok in
    rw left.1
    (whole_committed c.self.invariant left.0 (ap (λ (s : State). s.behind) c.self.view_is ∙ c.requires) (runs_where_ok was _ _ c.in_ok-next.ensures.answer)
    (subst IsSound left.1 c.store_words.ensures.sound) (c.store_words.ensures.stored ∙ ap words_of left.1))
