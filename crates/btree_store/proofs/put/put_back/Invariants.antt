use Rattle.std.proofs.Common.{◌≡◌}
use Rattle.btree_store.specs.Contents.{contents_of}
use Rattle.btree_store.specs.Put.{undo}
use Rattle.btree_store.proofs.put.put_back.Given as goal

abbrev pub invariant-loop-id : goal.invariant-loop-id
invariant-loop-id l = undo l.before.items (contents_of l.rows) ≡ undo l.fn.before.items (contents_of l.fn.rows)

abbrev pub decreases-loop-id : goal.decreases-loop-id
decreases-loop-id l = goal.left-loop-id l
