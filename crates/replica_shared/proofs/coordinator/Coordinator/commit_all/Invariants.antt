use Rattle.std.proofs.Common.{◌≡◌, true}
use Rattle.replica_shared.specs.Together.{Settles}
use Rattle.replica_shared.proofs.coordinator.Coordinator.commit_all.Given as goal

abbrev pub invariant-loop : goal.invariant-loop
invariant-loop g l =
    (goal.iterator-loop g).can_next l.iterator' × (goal.iterator-loop g).is_finite l.iterator' × Settles l.initial.self l.self × (l.self.behind ≡ true)
