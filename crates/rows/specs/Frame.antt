-- The effect of a list of changes looks only at the rows that it writes, at their kin, and at which rows have its marks; and it
-- changes only the rows that it writes, and who has its marks.
use Rattle.std.specs.Prelude.{◌≡◌, true, false, List, ◌++◌, Some}
use Rattle.std.specs.FinMap.{get}
use Rattle.schema.specs.declared.Table.{Table}
use Rattle.schema.specs.declared.RowId.{RowId}
use Rattle.schema.specs.Rows.{Mark, has_row, meets}
use Rattle.rows.specs.declared.Change.{Change}
use Rattle.rows.specs.Database.{Database, effect, writes, mark_in, steps, kin, marks}

-- two databases have the same at each of these rows
abbrev pub AgreeOn : List RowId → Database → Database → Type 0
AgreeOn rows a b = (q : RowId) → has_row rows q ≡ true → get a q ≡ get b q

-- in two databases the same rows have each of these marks
abbrev pub SameHolders : List Table → List Mark → Database → Database → Type 0
SameHolders ts held a b = (mark : Mark) → has_row held mark ≡ true → (q : RowId) → has_row (mark_in ts a q) mark ≡ has_row (mark_in ts b q) mark

-- the rows that are not written stay
abbrev pub ChangesOnlyWrites : Type 0
ChangesOnlyWrites = (ts : List Table) (changes : List Change) (before after : Database) (q : RowId) →
    effect ts changes before ≡ Some after → has_row (writes changes) q ≡ false → get after q ≡ get before q

-- a mark that is none of the changes' stays with the rows that have it
abbrev pub ChangesOnlyMarks : Type 0
ChangesOnlyMarks = (ts : List Table) (changes : List Change) (before after : Database) (mark : Mark) (q : RowId) →
    effect ts changes before ≡ Some after → has_row (marks ts changes before) mark ≡ false → has_row (mark_in ts after q) mark ≡ has_row (mark_in ts before q) mark

-- what the changes do where two databases agree on the rows written and their kin, and on who has their marks, they do to both
pub record SameEffect (ts : List Table) (changes : List Change) (before after other : Database) : Type 0 where
  pub leaves : Database
  pub defined : effect ts changes other ≡ Some leaves
  pub same_writes : AgreeOn (writes changes) after leaves
  pub same_steps : steps ts changes other ≡ steps ts changes before

abbrev pub LooksOnlyAtItsRows : Type 0
LooksOnlyAtItsRows = (ts : List Table) (changes : List Change) (before after other : Database) →
    effect ts changes before ≡ Some after → AgreeOn (writes changes ++ kin ts changes before) before other → SameHolders ts (marks ts changes before) before other →
    SameEffect ts changes before after other

-- where two lists of changes each apply to a database, the first writes no row that the second writes or is kin of there, and
-- their marks there do not meet, the second does the same behind the first
abbrev pub AppliesBehind : Type 0
AppliesBehind = (ts : List Table) (first second : List Change) (db mid leaves : Database) →
    effect ts first db ≡ Some mid → effect ts second db ≡ Some leaves → meets (writes first) (writes second ++ kin ts second db) ≡ false →
    meets (marks ts first db) (marks ts second db) ≡ false → SameEffect ts second db leaves mid
