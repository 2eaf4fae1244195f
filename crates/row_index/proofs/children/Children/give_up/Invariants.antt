use Rattle.std.proofs.Common.{◌≤◌, drop}
use Rattle.row_index.specs.Counts.{Recounts}
use Rattle.row_index.proofs.children.Children.give_up.Given as goal

abbrev pub invariant-loop-row : goal.invariant-loop-row
invariant-loop-row l = record {
  counts : Recounts l.old (drop l.row-index l.old) l.fn.self.map l.self.map;
  room : l.fn.self.room ≤ l.self.room;
}
