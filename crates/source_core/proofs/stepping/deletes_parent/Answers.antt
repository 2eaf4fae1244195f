use Rattle.std.proofs.Common.{◌∙◌, sym, ap}
use Rattle.rows.specs.declared.Change.{Change}
use Rattle.overlay.specs.Pending.{seen}
use Rattle.source_core.specs.Steps.{deletes_parent}
use Rattle.source_core.proofs.Shapes.{child_told}
use Rattle.source_core.proofs.stepping.deletes_parent.Goals as goal

pub returns-in-Delete : goal.returns-in-Delete
returns-in-Delete g c =
    let rows = g.S.RowStore.contents c.args.stored.now.store in
    c.has_child.ensures.value
    ∙ child_told c.args.schema.now rows c.args.pending.now c.args.stored.now.children.map c.in-Delete.row c.count-count.result c.has_child.ensures.rising c.requires c.count-count.ensures
    ∙ ap (λ (change : Change). deletes_parent c.args.schema.now change (seen c.args.pending.now rows)) (sym c.in-Delete.is)
