use Rattle.std.proofs.Common.{◌+◌, ◌≤◌, take}
use Rattle.rows.specs.Database.{writes}
use Rattle.relay.specs.Touches.{NotesWrites}
use Rattle.relay.proofs.touches.note_writes.Given as goal

abbrev pub invariant-loop-change : goal.invariant-loop-change
invariant-loop-change l = record {
  noted : NotesWrites l.gno l.fn.rows.map (writes (take l.change-index l.changes)) l.rows.map;
  room : l.fn.rows.room ≤ l.rows.room + l.change-index;
}
