use Rattle.std.proofs.Common.{◌∙◌, ap, length, rules}
use Rattle.replica_core.proofs.Handing.{takes_grow}
use Rattle.replica_shared.specs.Together.{State}
use Rattle.replica_shared.proofs.Feeding.{takes_where_running, still_running, takes_and_settles}
use Rattle.replica_shared.proofs.coordinator.Coordinator.take.Goals as goal

pub settle_past-settled-requires : goal.settle_past-settled-requires
settle_past-settled-requires g c =
    let takes = c.take_piece-taken.ensures.takes in
    let was = c.received-before.ensures ∙ ap (λ (s : State). length s.core.accepted) c.self.view_is in
    record { runs = λ more. still_running _ _ _ (takes_grow _ _ _ _ _ _ takes) (takes_where_running _ _ _ _ _ _ takes) was more }

pub returns-clause-takes : goal.returns-clause-takes
returns-clause-takes g c =
    let was = c.received-before.ensures ∙ ap (λ (s : State). length s.core.accepted) c.self.view_is in
    takes_and_settles _ c.take_piece-taken.new.self _ _ _ _ _ _ c.take_piece-taken.ensures.takes (search (rules, was))
