use Rattle.store_trait.proofs.Ahead.{rows_ahead}
use Rattle.store_trait.proofs.Values.{ValuesAreAhead}
use Rattle.store_trait.proofs.holder.Given as goal

-- the rows that have the value are ahead
abbrev pub invariant-loop-next : goal.invariant-loop-next
invariant-loop-next g l = ValuesAreAhead (g.S.RowStore.contents l.store) l.table l.column l.value l.last

abbrev pub decreases-loop-next : goal.decreases-loop-next
decreases-loop-next g l = rows_ahead (g.S.RowStore.contents l.store) l.table l.last
