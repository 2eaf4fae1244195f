use Rattle.std.proofs.Common.{◌≡◌, ◌≤◌, drop}
use Rattle.row_index.specs.Keys.{given_up}
use Rattle.row_index.proofs.index.give_up.Given as goal

abbrev pub invariant-loop-mark : goal.invariant-loop-mark
invariant-loop-mark l = record {
  map : given_up (drop l.mark-index l.old) l.keys.map ≡ given_up l.old l.fn.keys.map;
  room : l.fn.keys.room ≤ l.keys.room;
}
