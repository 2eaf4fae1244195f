use Rattle.std.proofs.Common.{◌≤◌, length, drop}
use Rattle.vector_store.specs.Contents.{AreBehind}
use Rattle.vector_store.proofs.search.window_near_end.Given as goal

abbrev pub invariant-loop-low : goal.invariant-loop-low
invariant-loop-low l = record { rises : l.low ≤ l.high; within : l.high ≤ length l.rows; behind : AreBehind l.id (drop l.high l.rows) }

abbrev pub decreases-loop-low : goal.decreases-loop-low
decreases-loop-low l = l.low
