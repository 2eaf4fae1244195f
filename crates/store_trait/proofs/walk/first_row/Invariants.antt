use Rattle.std.proofs.Common.{◌-◌}
use Rattle.store_trait.proofs.Walks.{NoneBefore}
use Rattle.store_trait.proofs.walk.first_row.Given as goal

-- the tables before the next have no row
abbrev pub invariant-loop-table : goal.invariant-loop-table
invariant-loop-table g l = NoneBefore (g.S.RowStore.contents l.store) l.tables l.fn.from l.from

abbrev pub decreases-loop-table : goal.decreases-loop-table
decreases-loop-table g l = 65536 - l.from
