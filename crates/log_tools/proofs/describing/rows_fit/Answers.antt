use Rattle.std.proofs.Common.{◌∙◌, sym, subst}
use Rattle.std.proofs.lemmas.Bool.{false≢true}
use Rattle.std.proofs.lemmas.Result.{IfOk-weaker}
use Rattle.rows.specs.Database.{NoValueTwice}
use Rattle.store_trait.proofs.Values.{fits_apart, fits_stand, standing_fits}
use Rattle.log_tools.proofs.describing.rows_fit.Goals as goal

pub returns-then-rows_stand : goal.returns-then-rows_stand
returns-then-rows_stand c =
    let ts = c.args.schema.now in
    IfOk-weaker c.values_apart.result _ _ (λ apart told. (
      λ yes. standing_fits ts _ (c.rows_stand.ensures.0 c.if-rows_stand.true) (subst (NoValueTwice ts) (sym c.requires) (told.0 yes)),
      λ fits. told.1 (subst (NoValueTwice ts) c.requires (fits_apart ts _ fits)),
    )) c.values_apart.ensures

pub returns-else-rows_stand : goal.returns-else-rows_stand
returns-else-rows_stand c =
    (λ yes. absurd (false≢true yes), λ fits. sym c.if-rows_stand.false ∙ c.rows_stand.ensures.1 (fits_stand _ _ fits))
