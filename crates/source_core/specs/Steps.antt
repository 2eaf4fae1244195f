-- What a change does to its row over a database, and what of the rows and of others' locks refuses it.
use Rattle.std.specs.Prelude.{ℤ, Bool, false, not, ◌||◌, if◌then◌else◌, List, ◌∷◌, Option, Some, None, Result, Ok, Err, is_some, is_none, option_and_then}
use Rattle.std.specs.Option.{option_map_or}
use Rattle.std.specs.Result.{result_ok}
use Rattle.std.specs.FinMap.{get}
use Rattle.schema.specs.declared.Table.{Table}
use Rattle.schema.specs.declared.RowId.{RowId}
use Rattle.schema.specs.Rows.{Mark}
use Rattle.rows.specs.declared.Change.{Change}
use Rattle.rows.specs.declared.Change.TheVariants.{Insert, Update, Delete}
use Rattle.rows.specs.declared.ChangeFault.{ChangeFault}
use Rattle.rows.specs.Change.{changed}
use Rattle.rows.specs.declared.step.Step.{Step}
use Rattle.rows.specs.Step.{step_from, step_of, kin_of}
use Rattle.rows.specs.Database.{Database, target, parent_stands, value_stands}
use Rattle.overlay.specs.Children.{has_child}
use Rattle.row_locks.specs.declared.Mode.{Mode}
use Rattle.row_locks.specs.declared.Mode.TheVariants.{Share, Exclusive}
use Rattle.row_locks.specs.Locks.{locks_on}
use Rattle.source_core.specs.declared.fault.SourceFault.{SourceFault}
use Rattle.source_core.specs.declared.fault.SourceFault.TheVariants.{RowLocked, RowExists, NoRow, NoParent, HasChild, Duplicate}

-- the first cause that stands
abbrev pub cause : Bool → SourceFault → Option SourceFault → Option SourceFault
cause stands fault later = if stands then Some fault else later

-- the row that a change leaves, where it fits the row before it and does not remove it
abbrev pub left_of : Change → Option (List ℤ) → Option (List ℤ)
left_of change before = option_and_then (λ left. left) (result_ok (changed change before))

-- what the change does to its row in a database
abbrev pub step_over : List Table → Database → Change → Step
step_over ts db change = step_from ts change (get db (target change)) (left_of change (get db (target change)))

-- the fault of a change that its own row does not allow
abbrev pub refusal : Change → SourceFault
refusal (Insert row columns) = RowExists
refusal (Update row named) = NoRow
refusal (Delete row) = NoRow

-- why a change is refused whose row, so before it, does not allow it, and else the causes that come later
abbrev pub row_fault : Change → Option (List ℤ) → Option SourceFault → Option SourceFault
row_fault (Insert row columns) there later = cause (is_some there) RowExists later
row_fault (Update row named) there later = cause (is_none there) NoRow later
row_fault (Delete row) there later = cause (is_none there) NoRow later

-- whether one of two rows, or marks, that there may be passes a test
abbrev pub one_of : (RowId → Bool) → Option RowId → Option RowId → Bool
one_of test old new = option_map_or test old false || option_map_or test new false

-- whether the change deletes a row that has a child in the database
abbrev pub deletes_parent : List Table → Change → Database → Bool
deletes_parent ts (Insert row columns) db = false
deletes_parent ts (Update row named) db = false
deletes_parent ts (Delete row) db = has_child ts db row

-- the causes that come behind those of the change's kin: another session holds one of its marks; another row has the value that
-- it gives its own in the unique column
abbrev pub mark_fault : List Table → Database → (Mark → Bool) → Change → Step → Option SourceFault
mark_fault ts db locked_mark change step =
    cause (one_of locked_mark step.gives_up step.takes) RowLocked (cause (not (value_stands ts change db step.left)) Duplicate None)

-- the causes that come behind those of the change's own row: another session holds one of its kin in a clashing way; the
-- parent row that it gives its own is not there; it deletes a row that has a child; and those of its marks
abbrev pub kin_fault : List Table → Database → (RowId → Bool) → (Mark → Bool) → Change → Step → Option SourceFault
kin_fault ts db locked locked_mark change step =
    cause (one_of locked step.old step.new) RowLocked (cause (not (parent_stands ts change db step.left)) NoParent (cause (deletes_parent ts change db) HasChild
    (mark_fault ts db locked_mark change step)))

-- the causes that the rows of a database and the locks of others on the change's kin and marks have, in order
abbrev pub rows_fault : List Table → Database → (RowId → Bool) → (Mark → Bool) → Change → Option SourceFault
rows_fault ts db locked locked_mark change =
    row_fault change (get db (target change)) (kin_fault ts db locked locked_mark change (step_over ts db change))

-- the step, where there is no cause
abbrev pub step_unless : Step → Option SourceFault → Result Step SourceFault
step_unless step None = Ok step
step_unless step (Some fault) = Err fault

-- what a change does over a database, or the first cause that refuses it, given what it does to its row
abbrev pub stepped_by : List Table → Database → (RowId → Bool) → (Mark → Bool) → Change → Result Step ChangeFault → Result Step SourceFault
stepped_by ts db locked locked_mark change (Err fault) = Err (refusal change)
stepped_by ts db locked locked_mark change (Ok step) = step_unless step (kin_fault ts db locked locked_mark change step)

abbrev pub stepped : List Table → Database → (RowId → Bool) → (Mark → Bool) → Change → Result Step SourceFault
stepped ts db locked locked_mark change = stepped_by ts db locked locked_mark change (step_of ts change (get db (target change)))

-- the locks of a change on rows: its own exclusively, and its kin for sharing
abbrev pub locks_of : Change → Step → List (RowId × Mode)
locks_of change step = (target change, Exclusive) ∷ locks_on Share (kin_of step)
