use Rattle.std.proofs.Common.{subst}
use Rattle.replica_shared.specs.Together.{State, TakesOut}
use Rattle.replica_shared.proofs.Keeping.{kept_left}
use Rattle.replica_shared.proofs.Whole.{whole_beside}
use Rattle.replica_shared.proofs.coordinator.Coordinator.take_kept.Goals as goal

pub invariant_of-self : goal.invariant_of-self
invariant_of-self g c = whole_beside c.self.invariant (kept_left _ _ c.take.result c.take.ensures c.self.invariant.kept) c.self.invariant.claims

pub returns-clause-taken : goal.returns-clause-taken
returns-clause-taken g c = subst (λ (s : State). TakesOut s.kept c.take.result c.take.new.self) c.self.view_is c.take.ensures
