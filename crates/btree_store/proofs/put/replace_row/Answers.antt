use Rattle.std.proofs.Common.{◌∙◌, sym}
use Rattle.btree_store.specs.Contents.{contents_of}
use Rattle.btree_store.proofs.Maps.{get_row, contents-set}
use Rattle.btree_store.proofs.Steps.{undo-insert}
use Rattle.btree_store.proofs.put.replace_row.Goals as goal

pub returns-clause-ok : goal.returns-clause-ok
returns-clause-ok c = contents-set c.args.rows.now c.insert.new.self c.args.id c.args.row c.in_ok-replaced.ensures.updates.0

pub returns-clause-undone : goal.returns-clause-undone
returns-clause-undone c =
    let was = get_row c.args.rows.now c.args.id ∙ sym c.in_ok-replaced.ensures.old in
    let inserted = contents-set c.args.rows.now c.insert.new.self c.args.id c.args.row c.in_ok-replaced.ensures.updates.0 in
    rw (c.note.ensures, c.in_ok-reserve.ensures.items, inserted) (undo-insert c.args.before.now.items c.args.id c.args.row (contents_of c.args.rows.now) c.in_ok-replaced.replaced was)
