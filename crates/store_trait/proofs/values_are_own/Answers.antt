use Rattle.std.proofs.Common.{◌∙◌, sym, subst, refl, true≢false, List}
use Rattle.std.specs.List.{AllByRecursion}
use Rattle.std.proofs.lemmas.List.{take_all}
use Rattle.schema.specs.declared.Table.{Table}
use Rattle.store_trait.specs.Fits.{OwnInTable}
use Rattle.store_trait.proofs.Own.{own_more, apart_of_own, own_of_apart}
use Rattle.store_trait.proofs.values_are_own.Goals as goal

pub loop-table-preserved : goal.loop-table-preserved
loop-table-preserved g c =
    own_more c.args.schema.now (g.S.RowStore.contents c.args.store.now) c.tables-table-items.result.now c.loop-table.table-index _ c.loop-table-test.true c.loop-table.invariant
    (c.are_own_in_table.ensures.0 c.if-not-are_own_in_table.false)

pub returns : goal.returns
returns g c =
    let ts = c.args.schema.now in
    let db = g.S.RowStore.contents c.args.store.now in (
      λ _. apart_of_own ts db
          (subst (λ (l : List Table). AllByRecursion (λ (t : Table). OwnInTable ts db t.id) l)
          (take_all c.loop-table.table-index c.tables-table-items.result.now c.loop-table-test.false ∙ c.tables-table-items.ensures.value) c.loop-table.invariant),
      λ _. refl,
    )

pub returns-then-not-are_own_in_table : goal.returns-then-not-are_own_in_table
returns-then-not-are_own_in_table g c = (
  λ no. absurd (true≢false (sym no)),
  λ apart. sym c.if-not-are_own_in_table.true ∙ c.are_own_in_table.ensures.1 (own_of_apart c.args.schema.now (g.S.RowStore.contents c.args.store.now) apart _),
)
