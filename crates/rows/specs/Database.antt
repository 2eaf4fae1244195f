-- Databases, what a change does to one, and what a list of changes does.
use Rattle.std.specs.Prelude.{◌≡◌, ℕ, ℤ, Bool, true, false, not, ◌&&◌, ◌||◌, if◌then◌else◌, List, [], ◌∷◌, map, flat_map, Option, Some, None, is_some, option_and_then, option_to_list}
use Rattle.std.specs.List.{list_any}
use Rattle.std.specs.Option.{option_map_or}
use Rattle.std.specs.Result.{result_ok}
use Rattle.std.specs.FinMap.{FinMap, get, insert, remove, contains_key, entries}
use Rattle.schema.specs.declared.Table.{Table}
use Rattle.schema.specs.declared.RowId.{RowId}
use Rattle.schema.specs.RowId.{row_cmp, same_row}
use Rattle.schema.specs.Rows.{Mark, Touched, has_row}
use Rattle.schema.specs.Schema.{link_of}
use Rattle.rows.specs.declared.Change.{Change}
use Rattle.rows.specs.declared.Change.TheVariants.{Insert, Update, Delete}
use Rattle.rows.specs.declared.step.Step.{Step}
use Rattle.rows.specs.Change.{changed}
use Rattle.rows.specs.Step.{parent_at, step_from, kin_of, marks_of}
pub use Rattle.rows.specs.Step.{target, parent_of, mark_of, names_parent, names_unique, moves_value}

-- a finite map from row ids to rows
abbrev pub Database : Type 0
Database = FinMap row_cmp (List ℤ)

-- the database with one row set, or removed
abbrev pub put_row : Database → RowId → Option (List ℤ) → Database
put_row db row None = remove db row
put_row db row (Some columns) = insert db row columns

-- the rows that a list of changes writes
abbrev pub writes : List Change → List RowId
writes changes = map target changes

-- the parent of the row of this id, where it is there and has one
abbrev pub parent_in : List Table → Database → RowId → List RowId
parent_in ts db id = option_to_list (parent_at ts id.table (get db id))

-- the mark of the row of this id, where it is there and has one
abbrev pub mark_in : List Table → Database → RowId → List Mark
mark_in ts db id = option_to_list (option_and_then (mark_of ts id.table) (get db id))

-- a row of the table may have these columns: it has no parent, or names one that is there
abbrev pub has_parent : List Table → Database → ℕ → List ℤ → Bool
has_parent ts db id columns =
    not (is_some (link_of ts id)) || option_map_or (contains_key db) (parent_of ts id columns) false

-- a row of the table may be so: it is not there, or has its parent there
abbrev pub row_has_parent : List Table → Database → ℕ → Option (List ℤ) → Bool
row_has_parent ts db id row = option_map_or (has_parent ts db id) row true

-- whether the change says which parent its row has: an insert does, and an update that names the parent column
abbrev pub sets_parent : List Table → Change → Bool
sets_parent ts (Insert row columns) = true
sets_parent ts (Update row named) = names_parent ts row.table named.mask
sets_parent ts (Delete row) = false

-- the parent that the change gives its row, which it leaves so, is there, if it gives one
abbrev pub parent_stands : List Table → Change → Database → Option (List ℤ) → Bool
parent_stands ts change db left = not (sets_parent ts change) || row_has_parent ts db (target change).table left

-- whether a row that an entry of a database is has this mark, and is not the row of this id
abbrev pub is_taken_by : List Table → RowId → Mark → RowId × List ℤ → Bool
is_taken_by ts id mark entry = not (same_row entry.0 id) && has_row (option_to_list (mark_of ts entry.0.table entry.1)) mark

-- the row of this id may have these columns: no other row of its table has the same value in the unique column, if there is one
abbrev pub is_free : List Table → Database → RowId → List ℤ → Bool
is_free ts db id columns = option_map_or (λ mark. not (list_any (is_taken_by ts id mark) (entries db))) (mark_of ts id.table columns) true

-- the row of this id may be so: it is not there, or no other row has its value in the unique column
abbrev pub row_is_free : List Table → Database → RowId → Option (List ℤ) → Bool
row_is_free ts db id row = option_map_or (is_free ts db id) row true

-- whether the change says which value its row has in the unique column: an insert does, and an update that names it
abbrev pub sets_value : List Table → Change → Bool
sets_value ts (Insert row columns) = true
sets_value ts (Update row named) = names_unique ts row.table named.mask
sets_value ts (Delete row) = false

-- no other row has the value that the change gives its row, which it leaves so, in the unique column
abbrev pub value_stands : List Table → Change → Database → Option (List ℤ) → Bool
value_stands ts change db left = not (sets_value ts change) || row_is_free ts db (target change) left

-- What a change leaves, where it applies: where it fits its row, the parent that it gives the row is there, and no other row has the
-- value that it gives it. It puts the row there that it leaves.
abbrev pub apply : List Table → Change → Database → Option Database
apply ts change db =
    option_and_then (λ left. if parent_stands ts change db left && value_stands ts change db left then Some (put_row db (target change) left) else None)
    (result_ok (changed change (get db (target change))))

-- what the changes leave, one after another, where each of them applies
abbrev pub effect : List Table → List Change → Database → Option Database
effect ts [] db = Some db
effect ts (change ∷ changes) db = option_and_then (effect ts changes) (apply ts change db)

-- the step of a change that makes the later one of the earlier database
abbrev pub step_between : List Table → Change → Database → Database → Step
step_between ts change before after = step_from ts change (get before (target change)) (get after (target change))

-- the steps of the changes, as they are applied, up to one that does not apply
abbrev pub steps : List Table → List Change → Database → List Step
steps ts [] db = []
steps ts (change ∷ changes) db = option_map_or (λ after. step_between ts change db after ∷ steps ts changes after) (apply ts change db) []

-- the parent rows, before and after each change, of the changed child rows
abbrev pub kin : List Table → List Change → Database → List RowId
kin ts changes db = flat_map kin_of (steps ts changes db)

-- the old and the new values, in unique columns, of the rows changed
abbrev pub marks : List Table → List Change → Database → List Mark
marks ts changes db = flat_map marks_of (steps ts changes db)

-- what the changes touch: the rows that they write, the parent rows that they look at, and the values that they give up or take
abbrev pub touched_by : List Table → List Change → Database → Touched
touched_by ts changes db = record { writes = writes changes; refs = kin ts changes db; marks = marks ts changes db }

-- no two rows of a table have one value in its unique column
abbrev pub NoValueTwice : List Table → Database → Type 0
NoValueTwice ts db = (p q : RowId) (mark : Mark) → has_row (mark_in ts db p) mark ≡ true → has_row (mark_in ts db q) mark ≡ true → p ≡ q

-- each row of a child table has its parent
abbrev pub ChildrenHaveParents : List Table → Database → Type 0
ChildrenHaveParents ts db = (id : RowId) (columns : List ℤ) → get db id ≡ Some columns → has_parent ts db id.table columns ≡ true

-- a row of the database names this row as its parent
abbrev pub HasChild : List Table → Database → RowId → Type 0
HasChild ts db row = (id : RowId) × (columns : List ℤ) × (get db id ≡ Some columns) × (parent_of ts id.table columns ≡ Some row)

-- the change deletes no row that has a child
abbrev pub DeletesNoParent : List Table → Change → Database → Type 0
DeletesNoParent ts (Insert row columns) db = Unit {0}
DeletesNoParent ts (Update row named) db = Unit {0}
DeletesNoParent ts (Delete row) db = ¬ HasChild ts db row

-- none of the changes, applied one after another, deletes a row that has a child at that moment
abbrev pub LeavesNoOrphan : List Table → List Change → Database → Type 0
LeavesNoOrphan ts [] db = Unit {0}
LeavesNoOrphan ts (change ∷ changes) db =
    DeletesNoParent ts change db × ((after : Database) → apply ts change db ≡ Some after → LeavesNoOrphan ts changes after)
