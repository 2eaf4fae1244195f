use Rattle.std.proofs.Common.{◌≡◌, true, take}
use Rattle.published.specs.History.{gnos_of}
use Rattle.replica_shared.specs.Awaited.{has_all}
use Rattle.replica_shared.proofs.coordinator.Coordinator.shows_all.Given as goal

abbrev pub invariant-loop-interval : goal.invariant-loop-interval
invariant-loop-interval g l = has_all (gnos_of l.self.publication.published) (take l.interval-index l.wanted) ≡ true
