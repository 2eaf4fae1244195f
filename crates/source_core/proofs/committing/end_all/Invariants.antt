use Rattle.std.proofs.Common.{◌≡◌, take}
use Rattle.row_locks.specs.Locks.{NoClash}
use Rattle.source_core.specs.Commit.{cleared, all_released}
use Rattle.source_core.proofs.committing.end_all.Given as goal

abbrev pub invariant-loop-session : goal.invariant-loop-session
invariant-loop-session l =
    (l.places ≡ cleared (take l.session-index l.sessions) l.initial.places)
    × (l.locks ≡ all_released (take l.session-index l.sessions) l.initial.locks)
    × NoClash l.locks.rows
    × NoClash l.locks.marks
