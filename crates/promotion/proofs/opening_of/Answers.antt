use Rattle.std.proofs.Common.{◌∙◌, ap, Some}
use Rattle.promotion.proofs.Behind.{behind_is, fit_now}
use Rattle.promotion.proofs.opening_of.Goals as goal

pub of-requires : goal.of-requires
of-requires g c =
    let may = c.in_ok-refuse.ensures.ok in
    fit_now c.args.replica.now c.store.ensures.sound may.no_gaps c.store.ensures.rows (c.in_ok-schema.ensures ∙ c.schema.ensures) may.fits

pub returns-clause-base : goal.returns-clause-base
returns-clause-base g c =
    ap Some c.in_ok-of.ensures.rows ∙ behind_is c.args.replica.now c.store.ensures.sound c.in_ok-refuse.ensures.ok.no_gaps c.store.ensures.rows
