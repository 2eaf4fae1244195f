use Rattle.std.proofs.Common.{◌≡◌}
use Rattle.replica_shared.specs.Together.{with_waiting}
use Rattle.replica_shared.proofs.coordinator.Coordinator.append_all.Given as goal

abbrev pub invariant-loop : goal.invariant-loop
invariant-loop g l =
    (goal.iterator-loop g).can_next l.iterator' × (goal.iterator-loop g).is_finite l.iterator' × (l.self ≡ with_waiting l.initial.self l.self.publication.waiting)
