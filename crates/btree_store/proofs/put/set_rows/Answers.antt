use Rattle.std.proofs.Common.{◌≡◌, ◌∙◌, ap, ℤ, List, Option, subst, get_or}
use Rattle.std.specs.FinMap.{insert}
use Rattle.store_trait.specs.Batch.{Entry}
use Rattle.btree_store.specs.Contents.{contents_of}
use Rattle.btree_store.proofs.Steps.{filling_skips, filling_on}
use Rattle.btree_store.proofs.put.set_rows.Goals as goal
use Rattle.btree_store.proofs.put.set_rows.Goals.{in-Some+in_ok-packed+in_ok-replace_row, in_default}

pub loop-id-preserved : goal.loop-id-preserved
loop-id-preserved c =
    let es = c.args.entries.now in
    let i = c.loop-id.id-index in
    let id = c.loop-id-item.result.0 in
    let IsHere = λ (columns : Option (List ℤ)). ◌≡◌ {A = Entry} (id, columns) (get_or es i (id, columns)) in
    elim c.match-row.branch [
      | in-Some+in_ok-packed+in_ok-replace_row w ↦ rw (w.rows-is, w.before-is)
          (filling_on es i (contents_of c.args.rows.now) (contents_of c.loop-id.rows) c.args.before.now.items c.loop-id.before.items c.loop-id.invariant c.loop-id-test.true
          id w.in-Some.row (contents_of w.replace_row.new.rows) w.replace_row.new.before.items c.requires (subst IsHere w.in-Some.is c.loop-id-item.is) w.replace_row.ensures.undone
          (w.in_ok-replace_row.ensures.ok ∙ ap (λ (columns : List ℤ). insert (contents_of c.loop-id.rows) id columns) w.in_ok-packed.ensures))
      | in_default w ↦ rw (w.rows-is, w.before-is)
          (filling_skips es i (contents_of c.args.rows.now) (contents_of c.loop-id.rows) c.args.before.now.items c.loop-id.before.items c.loop-id.invariant c.loop-id-test.true
          id (subst IsHere w.in_default.is c.loop-id-item.is))
    ]
