use Rattle.std.proofs.Common.{◌≡◌, ℕ, ◌<◌, ◌≤◌, true}
use Rattle.scheduler.specs.Gnos.{has_gno}
use Rattle.replica_shared.proofs.coordinator.Coordinator.has_committed.Given as goal

abbrev pub invariant-loop-gno : goal.invariant-loop-gno
invariant-loop-gno g l = (n : ℕ) → l.from ≤ n → n < l.gno → has_gno l.self.core.commits n ≡ true
