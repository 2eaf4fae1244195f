-- Which row has a value of a unique column.
use Rattle.std.specs.Prelude.{◌≡◌, ◌↔◌, ℤ, ◌*◌, ◌≤◌, Bool, true, false, List, length, find, map, Option, Some, is_some}
use Rattle.std.specs.Option.{option_map, option_map_or}
use Rattle.std.specs.List.{list_all}
use Rattle.std.specs.FinMap.{entries}
use Rattle.schema.specs.declared.Table.{Table}
use Rattle.schema.specs.declared.RowId.{RowId}
use Rattle.schema.specs.RowId.{same_row}
use Rattle.schema.specs.Rows.{Mark, has_row}
use Rattle.schema.specs.Schema.{unique_of}
use Rattle.rows.specs.declared.Change.{Change}
use Rattle.rows.specs.Database.{Database, mark_of, mark_in, is_free, marks, NoValueTwice}
use Rattle.rows.specs.Frame.{SameHolders}

-- whether a row that an entry of a database is has this mark
abbrev pub has_mark : List Table → Mark → RowId × List ℤ → Bool
has_mark ts mark entry = option_map_or (same_row mark) (mark_of ts entry.0.table entry.1) false

-- the least key of a row that has the mark
abbrev pub holder_of : List Table → Database → Mark → Option ℤ
holder_of ts db mark = option_map (λ (entry : RowId × List ℤ). entry.0.key) (find (has_mark ts mark) (entries db))

-- these marks, each with its holder
abbrev pub holders_in : List Table → List Mark → Database → List (Mark × Option ℤ)
holders_in ts held db = map (λ mark. (mark, holder_of ts db mark)) held

-- where no two rows have one value, the holder of a mark is the row that has it
abbrev pub HolderHasIt : Type 0
HolderHasIt = (ts : List Table) (db : Database) (mark : Mark) (q : RowId) → NoValueTwice ts db →
    (has_row (mark_in ts db q) mark ≡ true) ↔ ((holder_of ts db mark ≡ Some q.key) × (q.table ≡ mark.table))

-- and two databases have the same holders where they have the same rows with each mark
abbrev pub HoldersAreSame : Type 0
HoldersAreSame = (ts : List Table) (held : List Mark) (a b : Database) → NoValueTwice ts a → NoValueTwice ts b →
    SameHolders ts held a b ↔ ((mark : Mark) → has_row held mark ≡ true → holder_of ts a mark ≡ holder_of ts b mark)

-- columns are free for a row where nobody holds their mark, or the row itself does
abbrev pub FreeByHolder : Type 0
FreeByHolder = (ts : List Table) (db : Database) (id : RowId) (columns : List ℤ) (mark : Mark) → NoValueTwice ts db → mark_of ts id.table columns ≡ Some mark →
    (is_free ts db id columns ≡ true) ↔ ((key : ℤ) → holder_of ts db mark ≡ Some key → key ≡ id.key)

-- columns are free for a row just where no other row has their mark
abbrev pub FreeByRows : Type 0
FreeByRows = (ts : List Table) (db : Database) (id : RowId) (columns : List ℤ) (mark : Mark) → mark_of ts id.table columns ≡ Some mark →
    (is_free ts db id columns ≡ true) ↔ ((q : RowId) → has_row (mark_in ts db q) mark ≡ true → q ≡ id)

-- a change has at most two marks: the values of its row before it and after it
abbrev pub MarksAreFew : Type 0
MarksAreFew = (ts : List Table) (changes : List Change) (db : Database) → length (marks ts changes db) ≤ 2 * length changes

-- each mark is of a table that has a unique column
abbrev pub MarksAreOfUnique : Type 0
MarksAreOfUnique = (ts : List Table) (changes : List Change) (db : Database) → list_all (λ mark. is_some (unique_of ts mark.table)) (marks ts changes db) ≡ true
