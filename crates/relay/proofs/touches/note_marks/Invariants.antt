use Rattle.std.proofs.Common.{◌+◌, ◌≤◌, take}
use Rattle.relay.specs.Touches.{NotesMarks}
use Rattle.relay.proofs.touches.note_marks.Given as goal

abbrev pub invariant-loop-mark : goal.invariant-loop-mark
invariant-loop-mark l = record {
  noted : NotesMarks l.gno l.fn.stated.map (take l.mark-index l.marks) l.stated.map;
  room : l.fn.stated.room ≤ l.stated.room + l.mark-index;
}
