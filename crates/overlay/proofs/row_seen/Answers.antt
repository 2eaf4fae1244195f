use Rattle.std.proofs.Common.{sym, ap, ◌∙◌}
use Rattle.std.specs.Prelude.{unwrap_or}
use Rattle.std.specs.FinMap.{get}
use Rattle.store_trait.proofs.Batches.{get-put_batch}
use Rattle.overlay.proofs.row_seen.Goals as goal

pub returns-in-Some-clause-value : goal.returns-in-Some-clause-value
returns-in-Some-clause-value g c =
    let db = g.S.RowStore.contents c.args.store.now in
    sym (get-put_batch c.args.pending.now.left db c.args.id c.see.ensures.rising
    ∙ ap (λ o. unwrap_or o (get db c.args.id)) (sym c.see.ensures.value ∙ c.in-Some.is))

pub returns-in-None-clause-value : goal.returns-in-None-clause-value
returns-in-None-clause-value g c =
    let db = g.S.RowStore.contents c.args.store.now in
    c.get.ensures ∙ sym (get-put_batch c.args.pending.now.left db c.args.id c.see.ensures.rising
    ∙ ap (λ o. unwrap_or o (get db c.args.id)) (sym c.see.ensures.value ∙ c.in-None.is))
