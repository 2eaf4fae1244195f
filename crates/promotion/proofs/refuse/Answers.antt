use Rattle.std.proofs.Common.{rules, refl}
use Rattle.std.proofs.lemmas.Bool.{false≢true}
use Rattle.promotion.specs.Promotion.{HasNoGaps}
use Rattle.promotion.proofs.Behind.{fit_behind, misfit_behind}
use Rattle.promotion.proofs.refuse.Goals as goal

pub returns-then-not-rows_stand-clause-exact : goal.returns-then-not-rows_stand-clause-exact
returns-then-not-rows_stand-clause-exact g c =
    let full : HasNoGaps c.args.replica.now = search rules in (
      search rules,
      full,
      misfit_behind c.args.replica.now c.store.ensures.sound full c.store.ensures.rows c.schema.ensures
          (λ stand. absurd (false≢true (c.if-not-rows_stand.ensures.1 stand))),
    )

pub returns-clause-ok : goal.returns-clause-ok
returns-clause-ok g c =
    let full : HasNoGaps c.args.replica.now = search rules in
    record {
      other_name = search rules;
      no_gaps = full;
      fits = fit_behind c.args.replica.now c.store.ensures.sound full c.store.ensures.rows c.schema.ensures (c.if-not-rows_stand.ensures.0 refl);
    }
