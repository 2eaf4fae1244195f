use Rattle.std.proofs.Common.{take}
use Rattle.std.specs.Io.KnownBytes.{Appends}
use Rattle.std.specs.List.{flat_map}
use Rattle.log_tools.specs.Diff.{added_line}
use Rattle.log_tools.proofs.comparing.write_added.Given as goal

abbrev pub invariant-loop-entry : goal.invariant-loop-entry
invariant-loop-entry g l = Appends (g.W.Write.contents l.fn.out) (g.W.Write.contents l.out) (flat_map (added_line (g.S.RowStore.contents l.store)) (take l.entry-index l.entries))
