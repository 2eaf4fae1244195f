use Rattle.std.proofs.Common.{take}
use Rattle.std.specs.List.{AllByRecursion}
use Rattle.schema.specs.declared.Table.{Table}
use Rattle.store_trait.specs.Fits.{OwnInTable}
use Rattle.store_trait.proofs.values_are_own.Given as goal

-- the rows of the tables so far are the first with their values
abbrev pub invariant-loop-table : goal.invariant-loop-table
invariant-loop-table g l = AllByRecursion (λ (t : Table). OwnInTable l.schema (g.S.RowStore.contents l.store) t.id) (take l.table-index l.table-items)
