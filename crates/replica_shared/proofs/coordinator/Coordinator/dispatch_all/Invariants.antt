use Rattle.replica_shared.specs.Together.{DispatchesMore}
use Rattle.replica_shared.proofs.coordinator.Coordinator.dispatch_all.Given as goal

abbrev pub invariant-loop : goal.invariant-loop
invariant-loop g l =
    (goal.iterator-loop g).can_next l.iterator' × (goal.iterator-loop g).is_finite l.iterator' × DispatchesMore l.initial.self l.self
