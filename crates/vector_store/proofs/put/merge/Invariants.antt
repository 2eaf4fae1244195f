use Rattle.std.proofs.Common.{length}
use Rattle.vector_store.specs.Contents.{contents_of}
use Rattle.vector_store.specs.Gap.{around}
use Rattle.vector_store.proofs.Merging.{Merging}
use Rattle.vector_store.proofs.put.merge.Given as goal

abbrev pub invariant-loop-entry : goal.invariant-loop-entry
invariant-loop-entry l = Merging l.entries l.left (contents_of (around l.fn.gap l.fn.rows)) l.gap l.rows

abbrev pub decreases-loop-entry : goal.decreases-loop-entry
decreases-loop-entry l = length l.left
