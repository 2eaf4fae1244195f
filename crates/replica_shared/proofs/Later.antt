-- Later states of a coordinator.
use Rattle.std.proofs.Common.{◌∙◌, sym, ap, subst}
use mathlib.Core.List.{IsPrefix}
use base.Growing.{prefix_refl, prefix_trans}
use Rattle.replica_core.specs.Replica.{Replica}
use Rattle.replica_shared.specs.Together.{State, IsLater, SettlesBeside, Settles, DispatchesMore}

pub later_then : (s t u : State) → IsLater s t → IsLater t u → IsLater s u
later_then s t u a b = record {
  tables = b.tables ∙ a.tables;
  source = b.source ∙ a.source;
  base = b.base ∙ a.base;
  order = b.order ∙ a.order;
  accepted = b.accepted ∙ a.accepted;
  commits = prefix_trans s.core.commits t.core.commits u.core.commits a.commits b.commits;
  published = prefix_trans s.publication.published t.publication.published u.publication.published a.published b.published;
  closed = b.closed ∙ a.closed;
}

-- ---- what settles

-- what settles twice settles
pub settles_then : (s t u : State) → SettlesBeside s t → SettlesBeside t u → SettlesBeside s u
settles_then s t u a b = record {
  later = later_then s t u a.later b.later;
  stopped = b.stopped ∙ a.stopped;
  kept = b.kept ∙ a.kept;
  claimed = b.claimed ∙ a.claimed;
  told = b.told ∙ a.told;
}

-- dispatching settles, since it neither commits nor publishes
pub dispatching_settles : (s t : State) → DispatchesMore s t → Settles s t
dispatching_settles s t h = record {
  later = record {
    tables = ap (λ (r : Replica). r.tables) h.core;
    source = ap (λ (r : Replica). r.source) h.core;
    base = ap (λ (r : Replica). r.base) h.core;
    order = ap (λ (r : Replica). r.preserve) h.core;
    accepted = ap (λ (r : Replica). r.accepted) h.core;
    commits = subst (λ (r : Replica). IsPrefix s.core.commits r.commits) (sym h.core) (prefix_refl s.core.commits);
    published = subst (λ (x : State). IsPrefix s.publication.published x.publication.published) (sym h.same) (prefix_refl s.publication.published);
    closed = ap (λ (x : State). x.closed) h.same;
  };
  stopped = ap (λ (r : Replica). r.stopped) h.core;
  kept = ap (λ (x : State). x.kept) h.same;
  claimed = ap (λ (x : State). x.claimed) h.same;
  told = ap (λ (x : State). x.told) h.same;
}
