use Rattle.std.proofs.Common.{sym, ap, ◌∙◌}
use Rattle.overlay.specs.Pending.{Pending, left_at}
use Rattle.store_trait.proofs.Batches.{find-in_order, in_order_rises}
use Rattle.schema.proofs.RowMaps.{lookup-find}
use Rattle.overlay.proofs.Pending.see.Goals as goal

pub returns-clause-value : goal.returns-clause-value
returns-clause-value c =
    let es = c.self.inside.lists.left.entries in
    c.copied.ensures ∙ c.get.ensures.value ∙ lookup-find es c.args.id ∙ sym (find-in_order es c.args.id)
    ∙ ap (λ (p : Pending). left_at p c.args.id) c.self.view_is

pub returns-clause-rising : goal.returns-clause-rising
returns-clause-rising c = rw (← c.self.view_is) (in_order_rises c.self.inside.lists.left.entries)
