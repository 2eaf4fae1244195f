-- What changes give their rows, whatever the rows are; and that the effect looks at no more than that.
use Rattle.std.specs.Prelude.{◌≡◌, ◌⊎◌, true, ℕ, ℤ, pos, ◌%◌, ◌^◌, if◌then◌else◌, List, slice_get, slice_index_or, count_ones, Option, Some, None, option_and_then, option_to_list, flat_map}
use Rattle.std.specs.Option.{option_map}
use Rattle.schema.specs.declared.Table.{Table}
use Rattle.schema.specs.declared.RowId.{RowId}
use Rattle.schema.specs.Rows.{Mark, has_row}
use Rattle.schema.specs.Schema.{link_of, unique_of}
use Rattle.rows.specs.declared.Change.{Change}
use Rattle.rows.specs.declared.Change.TheVariants.{Insert, Update, Delete}
use Rattle.rows.specs.Naming.{names_column}
use Rattle.rows.specs.Database.{Database, target, writes, effect, kin, marks}
use Rattle.rows.specs.Frame.{AgreeOn, SameHolders, SameEffect}

-- the value that a change gives a column of its row: an insert gives each column one, and an update those that it names
abbrev pub given_value : Change → ℕ → Option ℤ
given_value (Insert row columns) c = slice_get columns c
given_value (Update row named) c = if names_column named.mask c then Some (slice_index_or named.values (count_ones (named.mask % 2 ^ c)) (pos 0)) else None
given_value (Delete row) c = None

-- the parent row that a change gives its row, if any: that of an insert into a child table, and that of an update that names
-- the parent column
abbrev pub given_parent : List Table → Change → Option RowId
given_parent ts change =
    option_and_then (λ link. option_map (λ key. record { table = link.1; key = key }) (given_value change link.0)) (link_of ts (target change).table)

-- and the mark that it gives it, if any: that of an insert into a table with a unique column, and that of an update that names it
abbrev pub given_mark : List Table → Change → Option Mark
given_mark ts change =
    option_and_then (λ column. option_map (λ value. record { table = (target change).table; key = value }) (given_value change column)) (unique_of ts (target change).table)

-- the parents and the marks that a list of changes gives
abbrev pub given_parents : List Table → List Change → List RowId
given_parents ts changes = flat_map (λ change. option_to_list (given_parent ts change)) changes

abbrev pub given_marks : List Table → List Change → List Mark
given_marks ts changes = flat_map (λ change. option_to_list (given_mark ts change)) changes

-- two databases have the same at the rows that the changes write and at the parents that they give, and the same rows have each
-- mark that they give
pub record AgreeFor (ts : List Table) (changes : List Change) (a b : Database) : Type 0 where
  pub rows : AgreeOn (writes changes) a b
  pub parents : AgreeOn (given_parents ts changes) a b
  pub holders : SameHolders ts (given_marks ts changes) a b

-- changes that apply to the one database do the same to the other
abbrev pub LooksOnlyAtGiven : Type 0
LooksOnlyAtGiven = (ts : List Table) (changes : List Change) (before after other : Database) →
    effect ts changes before ≡ Some after → AgreeFor ts changes before other → SameEffect ts changes before after other

-- so they apply to both, and do the same there, or to none
abbrev pub OneOutcome : Type 0
OneOutcome = (ts : List Table) (changes : List Change) (a b : Database) → AgreeFor ts changes a b →
    ((effect ts changes a ≡ None) × (effect ts changes b ≡ None)) ⊎ ((after : Database) × (effect ts changes a ≡ Some after) × SameEffect ts changes a after b)

-- where the changes apply, each parent that they give is among their kin
abbrev pub GivenParentsAreKin : Type 0
GivenParentsAreKin = (ts : List Table) (changes : List Change) (db after : Database) (parent : RowId) →
    effect ts changes db ≡ Some after → has_row (given_parents ts changes) parent ≡ true → has_row (kin ts changes db) parent ≡ true

-- and each mark that they give among their marks
abbrev pub GivenMarksAreMarks : Type 0
GivenMarksAreMarks = (ts : List Table) (changes : List Change) (db after : Database) (mark : Mark) →
    effect ts changes db ≡ Some after → has_row (given_marks ts changes) mark ≡ true → has_row (marks ts changes db) mark ≡ true

-- refs and marks that have what the changes give: each parent is among the refs, and each mark among the marks
pub record StatesGiven (ts : List Table) (changes : List Change) (refs : List RowId) (stated : List Mark) : Type 0 where
  pub gives_parents : (parent : RowId) → has_row (given_parents ts changes) parent ≡ true → has_row refs parent ≡ true
  pub gives_marks : (mark : Mark) → has_row (given_marks ts changes) mark ≡ true → has_row stated mark ≡ true
