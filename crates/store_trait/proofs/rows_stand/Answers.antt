use Rattle.std.proofs.Common.{◌≡◌, refl, arith, rules}
use Rattle.std.specs.FinMap.{len}
use Rattle.std.proofs.lemmas.Bool.{false≢true}
use Rattle.store_trait.proofs.Visits.{none_standing, stands_on, all_stand, none_ahead, stand_of_tables}
use Rattle.store_trait.proofs.rows_stand.Goals as goal

pub loop-init : goal.loop-init
loop-init g c = none_standing c.args.schema.now (g.S.RowStore.contents c.args.store.now)

pub returns-in_default : goal.returns-in_default
returns-in_default g c = (
  λ no. absurd (false≢true no),
  λ stand. absurd (none_ahead c.args.schema.now (g.S.RowStore.contents c.args.store.now) c.loop.last c.loop.counter c.loop.invariant.visits
      (rw c.len-end.ensures at c.loop-test.true) (rw c.tables.ensures.value at c.in_default.ensures) (stand_of_tables c.args.schema.now _ stand)),
)

pub loop-preserved : goal.loop-preserved
loop-preserved g c =
    stands_on c.args.schema.now (g.S.RowStore.contents c.args.store.now) c.loop.last c.loop.counter c.loop.invariant c.in-Some.id c.in-Some.row
    (rw c.tables.ensures.value at c.in-Some.ensures) (search rules)

pub returns : goal.returns
returns g c =
    let all : c.loop.counter ≡ len (g.S.RowStore.contents c.args.store.now) = omega arith in
    (λ _. all_stand c.args.schema.now (g.S.RowStore.contents c.args.store.now) c.loop.last c.loop.counter c.loop.invariant all, λ _. refl)
