-- What a tracker sees of a transaction: the rows and marks that it touches, and what kinds of tables it writes.
use Rattle.std.specs.Prelude.{List}
use Rattle.schema.specs.declared.Table.{Table}
use Rattle.schema.specs.declared.RowId.{RowId}
use Rattle.schema.specs.Rows.{Mark, Touched}
use Rattle.schema.specs.Flags.{flags_of}
use Rattle.log_index.specs.declared.Footprint.{Footprint}

-- the rows written and referred to, and the marks, which decide conflicts
abbrev pub touched : Footprint → Touched
touched f = record { writes = f.writes; refs = f.refs; marks = f.marks }

-- the footprint of a transaction that writes and refers to these rows and has these marks
abbrev pub footprint_of : List Table → List RowId → List RowId → List Mark → Footprint
footprint_of ts writes refs marks = record { writes = writes; refs = refs; marks = marks; flags = flags_of ts writes }
