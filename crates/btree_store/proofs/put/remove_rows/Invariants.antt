use Rattle.btree_store.specs.Contents.{contents_of}
use Rattle.btree_store.proofs.Steps.{Setting}
use Rattle.btree_store.proofs.put.remove_rows.Given as goal

abbrev pub invariant-loop-id : goal.invariant-loop-id
invariant-loop-id l = Setting l.entries l.id-index (contents_of l.fn.rows) (contents_of l.rows)
