use Rattle.std.specs.FinMap.{len}
use Rattle.row_locks.specs.Tied.{MovesAlike}
use Rattle.row_locks.proofs.sessions.unlock_all.Given as goal

abbrev pub invariant-loop-row : goal.invariant-loop-row
invariant-loop-row l = MovesAlike l.fn.held.map l.fn.tally.map l.held.map l.tally.map

abbrev pub decreases-loop-row : goal.decreases-loop-row
decreases-loop-row l = len l.held.map
