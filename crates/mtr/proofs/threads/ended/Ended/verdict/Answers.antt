use Rattle.std.proofs.Common.{◌∙◌, sym, ap, subst, List, Vec, Global}
use Rattle.std.specs.List.{list_all}
use Rattle.source_core.specs.declared.transaction.Receipt.{Receipt}
use Rattle.mtr.specs.declared.threads.reading.Shown.{Shown}
use Rattle.mtr.specs.Threads.{IsLast, are_within}
use Rattle.mtr.proofs.Sides.{equal_sides}
use Rattle.mtr.proofs.threads.ended.Ended.verdict.Goals as goal

pub returns-then-are_all_within : goal.returns-then-are_all_within
returns-then-are_all_within g c =
    let e = c.args.self.now in
    let told = c.begins.ensures.0 c.if-begins.true in
    equal_sides c.args.plan.now e c.requires.ended c.flushed.ensures.sound c.published.ensures.sound
    (record {
      took_part = c.took_part.ensures.yes c.if-took_part.true;
      counted = sym c.published.ensures.value ∙ c.if-published.true;
      rows = told.0;
      begins = told.1;
      within = ap (list_all (λ (v : Vec Shown Global). are_within e.published v.items)) (sym c.deref.ensures.value) ∙ sym c.are_all_within.ensures ∙ c.if-are_all_within.true;
    })
    c.last_gno-log.result
    (subst (λ (rs : List Receipt). IsLast rs c.last_gno-log.result) c.deref-then-are_all_within.ensures.value c.last_gno-log.ensures)
