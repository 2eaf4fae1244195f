use Rattle.store_trait.proofs.Visits.{Standing}
use Rattle.store_trait.proofs.rows_stand.Given as goal

-- the rows that are visited stand
abbrev pub invariant-loop : goal.invariant-loop
invariant-loop g l = Standing l.schema (g.S.RowStore.contents l.store) l.last l.counter
