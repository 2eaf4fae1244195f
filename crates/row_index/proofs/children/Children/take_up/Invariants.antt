use Rattle.std.proofs.Common.{◌≤◌, length, drop}
use Rattle.row_index.specs.Counts.{parents_left, Recounts}
use Rattle.row_index.proofs.children.Children.take_up.Given as goal

abbrev pub invariant-loop-entry : goal.invariant-loop-entry
invariant-loop-entry l = record {
  counts : Recounts (parents_left l.schema (drop l.entry-index l.entries)) (parents_left l.schema l.entries) l.fn.self.map l.self.map;
  room : length (parents_left l.schema (drop l.entry-index l.entries)) ≤ l.self.room;
}
