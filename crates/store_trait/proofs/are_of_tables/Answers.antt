use Rattle.std.proofs.Common.{◌≡◌, refl, arith}
use Rattle.std.specs.FinMap.{len}
use Rattle.std.proofs.lemmas.Bool.{false≢true}
use Rattle.store_trait.proofs.Visits.{none_visited, visit, all_of_tables, none_ahead}
use Rattle.store_trait.proofs.are_of_tables.Goals as goal

pub loop-init : goal.loop-init
loop-init g c = none_visited c.args.schema.now (g.S.RowStore.contents c.args.store.now)

pub returns-in_default : goal.returns-in_default
returns-in_default g c = (
  λ no. absurd (false≢true no),
  λ are. absurd (none_ahead c.args.schema.now (g.S.RowStore.contents c.args.store.now) c.loop.last c.loop.counter c.loop.invariant
      (rw c.len-end.ensures at c.loop-test.true) (rw c.tables.ensures.value at c.in_default.ensures) are),
)

pub loop-preserved : goal.loop-preserved
loop-preserved g c =
    visit c.args.schema.now (g.S.RowStore.contents c.args.store.now) c.loop.last c.loop.counter c.loop.invariant c.in-Some.id c.in-Some._row
    (rw c.tables.ensures.value at c.in-Some.ensures)

pub returns : goal.returns
returns g c =
    let all : c.loop.counter ≡ len (g.S.RowStore.contents c.args.store.now) = omega arith in
    (λ _. all_of_tables c.args.schema.now (g.S.RowStore.contents c.args.store.now) c.loop.last c.loop.counter c.loop.invariant all, λ _. refl)
