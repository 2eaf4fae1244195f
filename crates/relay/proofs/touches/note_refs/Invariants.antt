use Rattle.std.proofs.Common.{◌+◌, ◌≤◌, take}
use Rattle.relay.specs.Touches.{NotesRefs}
use Rattle.relay.proofs.touches.note_refs.Given as goal

abbrev pub invariant-loop-row : goal.invariant-loop-row
invariant-loop-row l = record {
  noted : NotesRefs l.gno l.fn.rows.map (take l.row-index l.refs) l.rows.map;
  room : l.fn.rows.room ≤ l.rows.room + l.row-index;
}
