use Rattle.std.proofs.Common.{List, sym, subst, Vec, Global}
use Rattle.std.specs.List.{All}
use Rattle.std.proofs.lemmas.List.Elements.{All-push}
use Rattle.store_trait.specs.declared.Op.{Op}
use Rattle.mtr.specs.declared.threads.reading.Shown.{Shown}
use Rattle.mtr.specs.Reading.{AreTold}
use Rattle.mtr.proofs.threads.lifecycle.tell_all.Goals as goal

pub loop-reader-preserved : goal.loop-reader-preserved
loop-reader-preserved g c =
    let published = c.args.publisher.now.published in
    let told : AreTold g.K.Naming.preserve published c.into_shown.result.items =
    subst (λ (ops : List Op). AreTold g.K.Naming.preserve ops c.into_shown.result.items) c.tell.ensures c.into_shown.ensures.told in (
      tt,
      tt,
      subst (All (λ (v : Vec Shown Global). AreTold g.K.Naming.preserve published v.items)) (sym c.in_ok-push.ensures.items)
          (All-push (λ (v : Vec Shown Global). AreTold g.K.Naming.preserve published v.items) c.loop-reader.readings.items c.into_shown.result c.loop-reader.invariant.2 told),
    )
