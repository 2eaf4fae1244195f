-- What a change does to its row: what it leaves of it, which parent row that names before it and after it, and which value of the unique
-- column the change takes from it and gives it.
use Rattle.std.specs.Prelude.{ℕ, ℤ, Bool, true, false, ◌++◌, if◌then◌else◌, List, slice_get, Option, None, Result, option_and_then, option_to_list}
use Rattle.std.specs.Option.{option_map_or, option_map}
use Rattle.std.specs.Result.{result_map_both}
use Rattle.schema.specs.declared.Table.{Table}
use Rattle.schema.specs.declared.RowId.{RowId}
use Rattle.schema.specs.Rows.{Mark}
use Rattle.schema.specs.Schema.{link_of, unique_of}
use Rattle.rows.specs.declared.Change.{Change}
use Rattle.rows.specs.declared.Change.TheVariants.{Insert, Update, Delete}
use Rattle.rows.specs.declared.ChangeFault.{ChangeFault}
use Rattle.rows.specs.declared.step.Step.{Step}
use Rattle.rows.specs.Change.{changed}
use Rattle.rows.specs.Naming.{names_column}

-- the row that a change is of
abbrev pub target : Change → RowId
target (Insert row columns) = row
target (Update row named) = row
target (Delete row) = row

-- the parent row that these columns of a row of the table name, where the table has a parent
abbrev pub parent_of : List Table → ℕ → List ℤ → Option RowId
parent_of ts id columns =
    option_and_then (λ link. option_map (λ key. record { table = link.1; key = key }) (slice_get columns link.0)) (link_of ts id)

-- whether this mask names the column of the table that names the parent row
abbrev pub names_parent : List Table → ℕ → ℕ → Bool
names_parent ts id mask = option_map_or (λ link. names_column mask link.0) (link_of ts id) false

-- the mark that these columns of a row of the table have: the value of the unique column, where the table has one
abbrev pub mark_of : List Table → ℕ → List ℤ → Option Mark
mark_of ts id columns = option_map (λ value. record { table = id; key = value }) (option_and_then (slice_get columns) (unique_of ts id))

-- whether this mask names the unique column of the table
abbrev pub names_unique : List Table → ℕ → ℕ → Bool
names_unique ts id mask = option_map_or (names_column mask) (unique_of ts id) false

-- whether a change may give its row another value of the unique column, or none any more: an update that does not name the
-- column does not
abbrev pub moves_value : List Table → Change → Bool
moves_value ts (Insert row columns) = true
moves_value ts (Update row named) = names_unique ts row.table named.mask
moves_value ts (Delete row) = true

-- the parent row that a row of the table names, where the row is there and has one
abbrev pub parent_at : List Table → ℕ → Option (List ℤ) → Option RowId
parent_at ts id columns = option_and_then (parent_of ts id) columns

-- the mark of the change's row, where the row is there and has one, and the change may give it another or none
abbrev pub mark_moved : List Table → Change → Option (List ℤ) → Option Mark
mark_moved ts change columns = if moves_value ts change then option_and_then (mark_of ts (target change).table) columns else None

-- the step of a change whose row is so before it, and which leaves it so
abbrev pub step_from : List Table → Change → Option (List ℤ) → Option (List ℤ) → Step
step_from ts change before left = record {
  left = left;
  old = parent_at ts (target change).table before;
  new = parent_at ts (target change).table left;
  gives_up = mark_moved ts change before;
  takes = mark_moved ts change left;
}

-- the step of a change whose row is so before it, or why the change does not fit that row
abbrev pub step_of : List Table → Change → Option (List ℤ) → Result Step ChangeFault
step_of ts change before = result_map_both (step_from ts change before) (λ fault. fault) (changed change before)

-- the parent rows that the row names, before the change and after it
abbrev pub kin_of : Step → List RowId
kin_of step = option_to_list step.old ++ option_to_list step.new

-- the marks that the change may take from its row, and give it
abbrev pub marks_of : Step → List Mark
marks_of step = option_to_list step.gives_up ++ option_to_list step.takes
