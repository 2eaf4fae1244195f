use Rattle.std.proofs.Common.{◌∙◌, sym, ap, List}
use Rattle.store_trait.specs.Batch.{Entry}
use Rattle.btree_store.specs.Contents.{contents_of}
use Rattle.btree_store.specs.Put.{undo}
use Rattle.btree_store.proofs.Steps.{undo-append}
use Rattle.btree_store.proofs.put.put_back.Goals as goal

pub loop-id-preserved : goal.loop-id-preserved
loop-id-preserved c =
    let left = c.pop.new.self.items in
    ap (undo left) c.reset_row.ensures.reset
    ∙ sym (undo-append left (c.in-Some.id, c.in-Some.row) (contents_of c.loop-id.rows))
    ∙ ap (λ (es : List Entry). undo es (contents_of c.loop-id.rows)) (sym c.in-Some.ensures.items)
    ∙ c.loop-id.invariant
