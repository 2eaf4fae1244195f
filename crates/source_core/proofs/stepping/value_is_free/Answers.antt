use Rattle.std.proofs.Common.{◌∙◌}
use Rattle.source_core.proofs.Shapes.{value_told}
use Rattle.source_core.proofs.stepping.value_is_free.Goals as goal

pub returns : goal.returns
returns g c =
    c.value_holds.ensures.value
    ∙ value_told c.args.schema.now c.args.change.now (g.S.RowStore.contents c.args.stored.now.store) c.args.pending.now c.args.stored.now.index.map c.args.step.now c.holder_below-holder.result
    c.requires.step c.requires.apart c.value_holds.ensures.rising c.requires.indexed
    c.holder_below-holder.ensures
