use Rattle.std.proofs.Common.{◌∙◌, subst, sym, ap, map}
use Rattle.std.specs.FinMap.{get}
use Rattle.store_trait.specs.Batch.{IsRising}
use Rattle.store_trait.proofs.Batches.{rows_in_rise}
use Rattle.replica_core.proofs.dispatching.copied_rows.Goals as goal

pub from_rising-requires : goal.from_rising-requires
from_rising-requires g c =
    subst IsRising (sym (c.in_ok-entries.ensures ∙ ap (map (λ id. (id, get (g.S.RowStore.contents c.args.store.now) id))) c.deref.ensures.value
    ∙ c.each_once-ids.ensures (g.S.RowStore.contents c.args.store.now)))
    (rows_in_rise c.args.ids.items (g.S.RowStore.contents c.args.store.now))
