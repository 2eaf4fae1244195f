use Rattle.std.proofs.Common.{◌≡◌, true, take}
use Rattle.row_index.specs.Keys.{marks_left}
use Rattle.row_index.proofs.OnceEach.{once_each}
use Rattle.row_index.proofs.apart.values_apart.Given as goal

abbrev pub invariant-loop-entry : goal.invariant-loop-entry
invariant-loop-entry l = record {
  marks : l.marks.keys ≡ marks_left l.schema (take l.entry-index l.entry-items);
  once : once_each (marks_left l.schema (take l.entry-index l.entry-items)) ≡ true;
}
