use Rattle.std.proofs.Common.{◌≡◌, ◌+◌, ◌≤◌, length, map, take}
use Rattle.row_locks.specs.Locks.{also_held}
use Rattle.row_locks.specs.Tied.{MovesAlike}
use Rattle.row_locks.proofs.sessions.lock_all.Given as goal

abbrev pub invariant-loop-one : goal.invariant-loop-one
invariant-loop-one g l =
    (l.held.map ≡ also_held l.fn.held.map (map g.L.Lock.lock (take l.one-index l.locks))) × MovesAlike l.fn.held.map l.fn.tally.map l.held.map l.tally.map
    × (length l.locks ≤ l.one-index + l.held.room) × (length l.locks ≤ l.one-index + l.tally.room)
