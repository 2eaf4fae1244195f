use Rattle.std.proofs.Common.{length}
use Rattle.vector_store.proofs.Merging.{Counting}
use Rattle.vector_store.proofs.put.count_new.Given as goal

abbrev pub invariant-loop-entry : goal.invariant-loop-entry
invariant-loop-entry l = Counting l.entries l.left l.rows l.end l.count

abbrev pub decreases-loop-entry : goal.decreases-loop-entry
decreases-loop-entry l = length l.left
