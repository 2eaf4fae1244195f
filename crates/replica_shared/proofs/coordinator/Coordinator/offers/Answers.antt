use Rattle.std.proofs.Common.{sym, subst, arith}
use Rattle.replica_core.specs.Sound.{IsSound}
use Rattle.replica_shared.specs.Together.{State}
use Rattle.replica_shared.proofs.Whole.{few_pushed}
use Rattle.replica_shared.proofs.coordinator.Coordinator.offers.Goals as goal

pub overflow_add-result : goal.overflow_add-result
overflow_add-result g c =
    let few = few_pushed c.self.invariant (subst (λ (s : State). IsSound s.core) (sym c.self.view_is) c.requires) in
    let places = c.self.invariant.kept.few in
    omega arith
