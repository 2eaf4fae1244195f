use Rattle.store_trait.proofs.Walks.{none_here}
use Rattle.store_trait.proofs.walk.first_row.Goals as goal

pub loop-table-preserved : goal.loop-table-preserved
loop-table-preserved g c =
    rw c.from-from.ensures (none_here (g.S.RowStore.contents c.args.store.now) c.args.tables.now c.args.from c.loop-table.from c.in-Some.table c.loop-table.invariant c.in-Some.ensures
    c.in_default-next_in_table.ensures)
