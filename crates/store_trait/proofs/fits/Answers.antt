use Rattle.std.proofs.Common.{◌∙◌, sym, true≢false}
use Rattle.store_trait.proofs.Values.{fits_apart, standing_fits, fits_stand}
use Rattle.store_trait.proofs.Visits.{stand_of_tables}
use Rattle.store_trait.proofs.fits.Goals as goal

pub returns-then-rows_stand-clause-fit : goal.returns-then-rows_stand-clause-fit
returns-then-rows_stand-clause-fit g c =
    let ts = c.args.schema.now in
    let db = g.S.RowStore.contents c.args.store.now in (
      λ yes. standing_fits ts db (c.rows_stand.ensures.0 c.if-rows_stand.true) (c.values_are_own.ensures.0 yes),
      λ fits. c.values_are_own.ensures.1 (fits_apart ts db fits),
    )

pub returns-then-rows_stand-clause-tables : goal.returns-then-rows_stand-clause-tables
returns-then-rows_stand-clause-tables g c = λ _. stand_of_tables c.args.schema.now (g.S.RowStore.contents c.args.store.now) (c.rows_stand.ensures.0 c.if-rows_stand.true)

pub returns-else-rows_stand-clause-fit : goal.returns-else-rows_stand-clause-fit
returns-else-rows_stand-clause-fit g c = (
  λ yes. absurd (true≢false (sym yes ∙ c.if-rows_stand.false)),
  λ fits. c.rows_stand.ensures.1 (fits_stand c.args.schema.now (g.S.RowStore.contents c.args.store.now) fits),
)
