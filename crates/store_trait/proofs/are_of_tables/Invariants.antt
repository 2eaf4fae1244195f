use Rattle.store_trait.proofs.Visits.{Visits}
use Rattle.store_trait.proofs.are_of_tables.Given as goal

-- the rows so far are visited
abbrev pub invariant-loop : goal.invariant-loop
invariant-loop g l = Visits l.schema (g.S.RowStore.contents l.store) l.last l.counter
