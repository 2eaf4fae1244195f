use Rattle.std.proofs.Common.{◌≡◌, take}
use Rattle.std.specs.Map.{keys_of}
use Rattle.row_index.specs.Counts.{parents_at}
use Rattle.row_index.proofs.children.parents_before.Given as goal

abbrev pub invariant-loop-entry : goal.invariant-loop-entry
invariant-loop-entry g l = l.parents.items ≡ parents_at l.schema (keys_of (take l.entry-index l.entry-items)) (g.S.RowStore.contents l.store)
