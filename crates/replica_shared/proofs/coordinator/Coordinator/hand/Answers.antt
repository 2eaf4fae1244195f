use Rattle.std.proofs.Common.{◌∙◌, ap, length, rules}
use Rattle.replica_shared.specs.Together.{State}
use Rattle.replica_shared.proofs.Feeding.{hands_grow_as, hands_where_running_as, still_running, hands_take, takes_and_settles}
use Rattle.replica_shared.proofs.coordinator.Coordinator.hand.Goals as goal

pub settle_past-settled-requires : goal.settle_past-settled-requires
settle_past-settled-requires g c =
    let hands = c.hand_waiting-taken.ensures.hands in
    let was = c.received-before.ensures ∙ ap (λ (s : State). length s.core.accepted) c.self.view_is in
    record { runs = λ more. still_running _ _ _ (hands_grow_as _ _ _ _ _ hands) (hands_where_running_as _ _ _ _ _ hands) was more }

pub returns-clause-takes : goal.returns-clause-takes
returns-clause-takes g c = λ old piece empty gathers.
    let was = c.received-before.ensures ∙ ap (λ (s : State). length s.core.accepted) c.self.view_is in
    takes_and_settles _ c.hand_waiting-taken.new.self _ _ _ _ _ _ (hands_take _ _ _ _ _ _ _ empty gathers c.hand_waiting-taken.ensures.hands) (search (rules, was))
