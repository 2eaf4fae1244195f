use Rattle.btree_store.specs.Contents.{contents_of}
use Rattle.btree_store.proofs.Steps.{Filling}
use Rattle.btree_store.proofs.put.set_rows.Given as goal

abbrev pub invariant-loop-id : goal.invariant-loop-id
invariant-loop-id l = Filling l.entries l.id-index (contents_of l.fn.rows) (contents_of l.rows) l.fn.before.items l.before.items
