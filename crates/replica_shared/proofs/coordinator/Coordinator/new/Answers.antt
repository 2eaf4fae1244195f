use Rattle.std.proofs.Common.{◌≡◌, refl, sym, ap, subst, ℕ, Bool, true, false, None, arith}
use Rattle.replica_core.specs.Calls.{new_over, next_commit}
use Rattle.replica_shared.specs.Names.{ReplicaNames}
use Rattle.replica_shared.specs.Outlet.{Queued, AreInLine}
use Rattle.replica_shared.specs.Together.{AreKept}
use Rattle.replica_shared.proofs.Standing.{new_stands}
use Rattle.replica_shared.proofs.coordinator.Coordinator.new.Goals as goal

none_first : (names : ReplicaNames) (workers : ℕ) (preserve : Bool) → next_commit (new_over names.tables names.source names.base workers preserve) ≡ None
none_first names workers true = refl
none_first names workers false = refl

pub invariant_of-result : goal.invariant_of-result
invariant_of-result g c = rw c.requires.core record {
  stand = new_stands c.requires.publisher c.requires.status;
  kept = subst AreKept (sym c.requires.kept) (record { distinct = tt; few = omega arith });
  line = subst (AreInLine 0) (sym c.requires.outlet) refl;
  claims = omega arith;
  stops = tt;
  rest = λ _ _. record {
    committed = none_first g.J.ReplicaNaming.names c.args.core.workers g.J.Naming.preserve;
    published = refl;
    dispatched = refl;
    pushed = ap (λ (q : Queued). q.aside) c.requires.outlet;
  };
  known_is = c.requires.known;
}
