-- What batches leave of a database.
use Rattle.std.specs.Prelude.{◌≡◌, ℕ, ℤ, List, ◌++◌, map, Option, Some, None, unwrap_or, if◌then◌else◌}
use Rattle.std.specs.List.{IsDistinct}
use Rattle.std.specs.List.Sorted.{IsPermutation, IsSortedByKey}
use Rattle.std.specs.Map.{keys_of}
use Rattle.std.specs.FinMap.{get, find, empty}
use Rattle.schema.specs.declared.Table.{Table}
use Rattle.schema.specs.declared.RowId.{RowId}
use Rattle.schema.specs.RowId.{row_cmp, same_row}
use Rattle.schema.specs.Rows.{Mark, has_row}
use Rattle.schema.specs.Schema.{unique_of}
use Rattle.rows.specs.declared.Change.{Change}
use Rattle.rows.specs.Database.{Database, effect, writes, NoValueTwice}
use Rattle.rows.specs.Holders.{holder_of}
use Rattle.store_trait.specs.Batch.{Entry, IsRising, put_batch, put_batches, rows_in, all_rows}
use Rattle.store_trait.specs.Contents.{IsHolder}
use Rattle.store_trait.specs.Fits.{Fits, RowsStand}
use Rattle.store_trait.specs.declared.Op.{Op}
use Rattle.store_trait.specs.Operation.{batch_of, left_by}

-- behind a batch each row is as the batch has it, or else as it was
abbrev pub SetsItsRows : Type 0
SetsItsRows = (batch : List Entry) (db : Database) (q : RowId) →
    IsRising batch → get (put_batch batch db) q ≡ unwrap_or (find row_cmp q batch) (get db q)

-- batches that have the same at each row are one
abbrev pub IsItsRows : Type 0
IsItsRows = (xs ys : List Entry) →
    IsRising xs → IsRising ys → ((q : RowId) → find row_cmp q xs ≡ find row_cmp q ys) → xs ≡ ys

-- the batch of some rows of a database
abbrev pub HasTheRows : Type 0
HasTheRows = (rows : List RowId) (db : Database) →
    IsRising (rows_in rows db) × ((q : RowId) → find row_cmp q (rows_in rows db) ≡ (if has_row rows q then Some (get db q) else None))

-- the batch of the rows that changes write carries a database to what they leave
abbrev pub CarriesChanges : Type 0
CarriesChanges = (ts : List Table) (changes : List Change) (before after : Database) →
    effect ts changes before ≡ Some after → put_batch (rows_in (writes changes) after) before ≡ after

-- entries of distinct rows, sorted by row id, rise
abbrev pub SortedRowsRise : Type 0
SortedRowsRise = (entries sorted : List Entry) →
    IsDistinct same_row (keys_of entries) → IsPermutation entries sorted → IsSortedByKey (λ (entry : Entry). entry.0) row_cmp sorted → IsRising sorted

-- entries that rise in some arrangement are of distinct rows: where two are of one row, none of their arrangements
-- rises
abbrev pub RisingRowsDiffer : Type 0
RisingRowsDiffer = (entries arranged : List Entry) → IsPermutation entries arranged → IsRising arranged → IsDistinct same_row (keys_of entries)

-- batches, and more of them
abbrev pub GoesOn : Type 0
GoesOn = (batches more : List (List Entry)) (db : Database) → put_batches (batches ++ more) db ≡ put_batches more (put_batches batches db)

-- operations, and more of them
abbrev pub GoesOnByOps : Type 0
GoesOnByOps = (ops more : List Op) → left_by (ops ++ more) ≡ put_batches (map batch_of more) (left_by ops)

-- the batch of all rows of a database loads it
abbrev pub LoadsAll : Type 0
LoadsAll = (db : Database) → IsRising (all_rows db) × (put_batch (all_rows db) empty ≡ db)

-- in rows that fit, no two have one value in a unique column
abbrev pub FitsApart : Type 0
FitsApart = (ts : List Table) (db : Database) → Fits ts db → NoValueTwice ts db

-- rows that stand fit, where no two have one value in a unique column
abbrev pub StandingFits : Type 0
StandingFits = (ts : List Table) (db : Database) → RowsStand ts db → NoValueTwice ts db → Fits ts db

-- rows that fit stand
abbrev pub FitsStands : Type 0
FitsStands = (ts : List Table) (db : Database) → Fits ts db → RowsStand ts db

-- the first row of a table that has a value in its unique column is the one that has the mark
abbrev pub HolderIsFirst : Type 0
HolderIsFirst = (ts : List Table) (db : Database) (mark : Mark) (column : ℕ) (found : Option ℤ) →
    unique_of ts mark.table ≡ Some column → IsHolder db mark.table column mark.key found → found ≡ holder_of ts db mark
