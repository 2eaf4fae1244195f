use Rattle.std.proofs.Common.{take}
use Rattle.std.specs.Io.KnownBytes.{Appends}
use Rattle.log_tools.specs.Head.{tables_text}
use Rattle.log_tools.proofs.describing.write_tables.Given as goal

abbrev pub invariant-loop-table : goal.invariant-loop-table
invariant-loop-table g l = Appends (g.W.Write.contents l.fn.out) (g.W.Write.contents l.out) (tables_text (take l.table-index l.tables))
