use Rattle.std.proofs.Common.{◌≡◌, ◌≤◌, length, drop}
use Rattle.row_index.specs.Keys.{taken_up, marks_left}
use Rattle.row_index.proofs.index.take_up.Given as goal

abbrev pub invariant-loop-entry : goal.invariant-loop-entry
invariant-loop-entry l = record {
  map : taken_up l.schema (drop l.entry-index l.entries) l.keys.map ≡ taken_up l.schema l.entries l.fn.keys.map;
  room : length (marks_left l.schema (drop l.entry-index l.entries)) ≤ l.keys.room;
}
