use Rattle.store_trait.proofs.Ahead.{rows_ahead}
use Rattle.store_trait.proofs.Own.{OwnBehind}
use Rattle.store_trait.proofs.are_own_in_column.Given as goal

-- the rows that are passed are the first with their values
abbrev pub invariant-loop-next : goal.invariant-loop-next
invariant-loop-next g l = OwnBehind (g.S.RowStore.contents l.store) l.table l.column l.last

abbrev pub decreases-loop-next : goal.decreases-loop-next
decreases-loop-next g l = rows_ahead (g.S.RowStore.contents l.store) l.table l.last
