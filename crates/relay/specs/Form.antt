-- What the tables of a source give for the changes of a record, whatever the rows are: its flags, which rows it refers to, and which
-- marks it states.
use Rattle.std.specs.Prelude.{Bool, true, ◌&&◌, List, is_some}
use Rattle.std.specs.List.{list_all}
use Rattle.std.specs.Option.{option_map_or}
use Rattle.std.proofs.Math.Bool.{beq}
use Rattle.schema.specs.declared.Table.{Table}
use Rattle.schema.specs.declared.RowId.{RowId}
use Rattle.schema.specs.Rows.{Mark, has_row}
use Rattle.schema.specs.Schema.{unique_of}
use Rattle.schema.specs.Flags.{is_parent, flags_of}
use Rattle.rows.specs.declared.Change.{Change}
use Rattle.rows.specs.Database.{writes}
use Rattle.rows.specs.Given.{given_parent, given_mark}
use Rattle.record_codec.specs.declared.records.Record.{Record}

-- whether the record's flags are those of the tables that its changes write
abbrev pub has_flags : List Table → Record → Bool
has_flags ts new =
    let flags = flags_of ts (writes new.changes) in beq new.flags.fk flags.fk && beq new.flags.missing_keys flags.missing_keys

-- whether each of these rows is of a table that is a parent
abbrev pub are_parents : List Table → List RowId → Bool
are_parents ts rows = list_all (λ row. is_parent ts row.table) rows

-- whether the parent row that the change gives its row, if any, is among the refs
abbrev pub has_ref : List Table → List RowId → Change → Bool
has_ref ts refs change = option_map_or (has_row refs) (given_parent ts change) true

-- whether each of these marks is of a table with a unique column
abbrev pub are_unique : List Table → List Mark → Bool
are_unique ts marks = list_all (λ mark. is_some (unique_of ts mark.table)) marks

-- whether the mark that the change gives its row, if any, is among these
abbrev pub states_given : List Table → List Mark → Change → Bool
states_given ts marks change = option_map_or (has_row marks) (given_mark ts change) true
