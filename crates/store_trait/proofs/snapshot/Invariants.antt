use Rattle.store_trait.proofs.Copies.{Copies}
use Rattle.store_trait.proofs.snapshot.Given as goal

-- the rows that are visited are copied
abbrev pub invariant-loop : goal.invariant-loop
invariant-loop g l = Copies l.schema (g.S.RowStore.contents l.store) l.last l.counter l.entries.items
