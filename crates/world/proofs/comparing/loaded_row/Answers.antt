use Rattle.std.proofs.Common.{rules}
use Rattle.std.proofs.lemmas.List.Sorted.{answers_always}
use Rattle.store_trait.specs.Batch.{Entry}
use Rattle.world.proofs.Alike.{ranks_rise, loads_found, loads_none}
use Rattle.world.proofs.comparing.loaded_row.Goals as goal

pub returns-in-Ok : goal.returns-in-Ok
returns-in-Ok c =
    let es = c.entries-entries.result.now in
    let at = c.in-Ok.ensures.position (λ (y : Entry). y.0) (answers_always _ _ _ (λ f a r g called. search rules)) in
    rw (← c.entries-entries.ensures.value) (loads_found es c.args.id c.in-Ok.at c.index-entries-at.result c.entries-entries.ensures.rising c.in-Ok.ensures.bound (at c.index-entries-at.result))

pub returns-in-Err : goal.returns-in-Err
returns-in-Err c =
    let es = c.entries-entries.result.now in
    let at = c.in-Err.ensures.position (λ (y : Entry). y.0) (answers_always _ _ _ (λ f a r g called. search rules)) in
    rw (← c.entries-entries.ensures.value) (loads_none es c.args.id c.in-Err.field-0 c.entries-entries.ensures.rising (at (ranks_rise es c.args.id c.entries-entries.ensures.rising)))
