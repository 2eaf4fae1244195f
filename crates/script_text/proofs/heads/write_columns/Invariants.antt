use Rattle.std.proofs.Common.{take}
use Rattle.std.specs.Io.KnownBytes.{Appends}
use Rattle.script_text.specs.Printing.{columns_text}
use Rattle.script_text.proofs.heads.write_columns.Given as goal

abbrev pub invariant-loop-column : goal.invariant-loop-column
invariant-loop-column g l = Appends (g.W.Write.contents l.fn.out) (g.W.Write.contents l.out) (columns_text (take l.column-index l.column-items))
