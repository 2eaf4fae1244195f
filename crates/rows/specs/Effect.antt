-- What follows from what one change does to its row for the effect of a list of changes.
use Rattle.std.specs.Prelude.{◌≡◌, ℤ, true, false, not, ◌&&◌, ◌||◌, if◌then◌else◌, List, [], ◌∷◌, ◌++◌, Option, Some, None, Ok, is_some, is_none, option_and_then}
use Rattle.std.specs.Result.{result_ok}
use Rattle.std.specs.FinMap.{get, insert, remove}
use Rattle.schema.specs.declared.Table.{Table}
use Rattle.schema.specs.declared.RowId.{RowId}
use Rattle.schema.specs.RowId.{same_row}
use Rattle.schema.specs.Rows.{has_row}
use Rattle.rows.specs.declared.Change.{Change}
use Rattle.rows.specs.declared.Change.TheVariants.{Insert, Update, Delete}
use Rattle.rows.specs.Change.{changed}
use Rattle.rows.specs.Naming.{assigned}
use Rattle.rows.specs.Database.{Database, put_row, target, writes, has_parent, names_parent, is_free, names_unique, apply, effect, steps, kin, marks, NoValueTwice, ChildrenHaveParents, LeavesNoOrphan}
pub use Rattle.rows.specs.Database.{row_has_parent, sets_parent, parent_stands, row_is_free, sets_value, value_stands}
use Rattle.rows.specs.Frame.{AgreeOn}

-- What a change leaves, kind by kind. An insert applies where the row is absent, its parent, if the table has one, is there, and no
-- other row has its value in the unique column, if the table has one. An update applies where the row is there and has each column
-- named and, where it names the parent column, the new parent is there, and, where it names the unique column, no other row has the new
-- value; the columns not named stay. A delete applies where the row is there.
abbrev pub applied_by_kind : List Table → Change → Database → Option Database
applied_by_kind ts (Insert row columns) db =
    if is_none (get db row) && (has_parent ts db row.table columns && is_free ts db row columns) then Some (insert db row columns) else None
applied_by_kind ts (Update row named) db =
    option_and_then (λ columns.
    if (not (names_parent ts row.table named.mask) || has_parent ts db row.table columns) && (not (names_unique ts row.table named.mask) || is_free ts db row columns)
    then Some (insert db row columns) else None)
    (option_and_then (assigned named) (get db row))
applied_by_kind ts (Delete row) db = if is_some (get db row) then Some (remove db row) else None

-- so a change does
abbrev pub AppliesByKind : Type 0
AppliesByKind = (ts : List Table) (change : Change) (db : Database) → apply ts change db ≡ applied_by_kind ts change db

-- A change leaves its row so, and the later database of the earlier one: it fits the row, the parent that it gives it is there, and no
-- other row has the value that it gives it.
pub record Leaves (ts : List Table) (change : Change) (before : Database) (left : Option (List ℤ)) (after : Database) : Type 0 where
  pub fits : changed change (get before (target change)) ≡ Ok left
  pub parent : parent_stands ts change before left ≡ true
  pub value : value_stands ts change before left ≡ true
  pub is : put_row before (target change) left ≡ after

-- a change that applies does
abbrev pub LeavesWhereItApplies : Type 0
LeavesWhereItApplies = (ts : List Table) (change : Change) (db after : Database) →
    apply ts change db ≡ Some after → Leaves ts change db (get after (target change)) after

-- and where each child has its parent, the row that it leaves has its own
abbrev pub HasParentWhereItApplies : Type 0
HasParentWhereItApplies = (ts : List Table) (change : Change) (db after : Database) →
    ChildrenHaveParents ts db → apply ts change db ≡ Some after → row_has_parent ts db (target change).table (get after (target change)) ≡ true

-- a change applies where it fits its row, the parent that it gives the row is there and no other row has the value that it gives it
abbrev pub AppliesWhereItFits : Type 0
AppliesWhereItFits = (ts : List Table) (change : Change) (db : Database) (left : Option (List ℤ)) →
    changed change (get db (target change)) ≡ Ok left → parent_stands ts change db left ≡ true → value_stands ts change db left ≡ true → apply ts change db ≡ Some (put_row db (target change) left)

-- what those of the changes that are of one row leave there, one after another, given the row before them;
-- undefined where one of them does not fit
abbrev pub row_after : List Change → RowId → Option (List ℤ) → Option (Option (List ℤ))
row_after [] q row = Some row
row_after (change ∷ changes) q row =
    if same_row q (target change) then option_and_then (row_after changes q) (result_ok (changed change row)) else row_after changes q row

-- one list of changes behind another
abbrev pub WritesOfJoined : Type 0
WritesOfJoined = (xs ys : List Change) → writes (xs ++ ys) ≡ writes xs ++ writes ys

abbrev pub EffectOfJoined : Type 0
EffectOfJoined = (ts : List Table) (xs ys : List Change) (db : Database) →
    effect ts (xs ++ ys) db ≡ option_and_then (effect ts ys) (effect ts xs db)

abbrev pub StepsOfJoined : Type 0
StepsOfJoined = (ts : List Table) (xs ys : List Change) (db mid : Database) →
    effect ts xs db ≡ Some mid → steps ts (xs ++ ys) db ≡ steps ts xs db ++ steps ts ys mid

-- so the kin and the marks of both are those of the first list and those of the second
abbrev pub KinOfJoined : Type 0
KinOfJoined = (ts : List Table) (xs ys : List Change) (db mid : Database) →
    effect ts xs db ≡ Some mid → kin ts (xs ++ ys) db ≡ kin ts xs db ++ kin ts ys mid

abbrev pub MarksOfJoined : Type 0
MarksOfJoined = (ts : List Table) (xs ys : List Change) (db mid : Database) →
    effect ts xs db ≡ Some mid → marks ts (xs ++ ys) db ≡ marks ts xs db ++ marks ts ys mid

abbrev pub RowAfterJoined : Type 0
RowAfterJoined = (xs ys : List Change) (q : RowId) (row : Option (List ℤ)) →
    row_after (xs ++ ys) q row ≡ option_and_then (row_after ys q) (row_after xs q row)

-- after the changes each row is what the changes of it leave
abbrev pub EachRowIsLeft : Type 0
EachRowIsLeft = (ts : List Table) (changes : List Change) (before after : Database) (q : RowId) →
    effect ts changes before ≡ Some after → row_after changes q (get before q) ≡ Some (get after q)

-- a database that has the rows written as the changes leave them, and the others as they were, is what they leave
abbrev pub EffectIsItsRows : Type 0
EffectIsItsRows = (ts : List Table) (changes : List Change) (before after other : Database) →
    effect ts changes before ≡ Some after → AgreeOn (writes changes) after other →
    ((q : RowId) → has_row (writes changes) q ≡ false → get other q ≡ get before q) → other ≡ after

-- where no two rows have one value in a unique column, none have after the changes
abbrev pub ValuesStayApart : Type 0
ValuesStayApart = (ts : List Table) (changes : List Change) (before after : Database) → NoValueTwice ts before → effect ts changes before ≡ Some after → NoValueTwice ts after

-- where each child has its parent and no parent of a row is deleted, each has it after the changes
abbrev pub ChildrenKeepParents : Type 0
ChildrenKeepParents = (ts : List Table) (changes : List Change) (before after : Database) →
    ChildrenHaveParents ts before → LeavesNoOrphan ts changes before → effect ts changes before ≡ Some after → ChildrenHaveParents ts after
