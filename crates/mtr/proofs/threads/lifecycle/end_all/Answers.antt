use Rattle.std.proofs.Common.{◌∙◌, sym, subst, Bool, Vec, Global}
use Rattle.std.specs.List.{All}
use Rattle.mtr.specs.Reading.{AreTold}
use Rattle.mtr.specs.declared.threads.reading.Shown.{Shown}
use Rattle.mtr.proofs.threads.lifecycle.end_all.Goals as goal

pub returns-clause-ended : goal.returns-clause-ended
returns-clause-ended g c =
    let order = c.end-replica.ensures.named.3 in
    record {
      order = order ∙ c.requires.order;
      tables = c.end-replica.ensures.named.0 ∙ c.requires.tables ∙ sym c.in-Ok-end_source.ensures.tables;
      given = c.in-Ok-end_source.ensures.receipts;
      shown = c.end-replica.result.1.published;
      are = c.end-replica.ensures.published;
      in_order = λ kept. c.end-replica.ensures.in_order (sym order ∙ kept);
      within = c.end-replica.ensures.within;
      counted = c.end-replica.ensures.shown;
      told =
          subst (λ (b : Bool). All (λ (v : Vec Shown Global). AreTold b c.end-replica.result.1.published v.items) c.in-Ok.told.1.items) (sym order) c.in-Ok.ensures;
      keep = (c.in-Ok-end_source.ensures.keeps, c.end-replica.ensures.keeps ∙ c.requires.keeps);
    }
