-- Batches: for each row that changes its new columns, or none where the row is removed.
use Rattle.std.specs.Prelude.{ℤ, IsTrue, List, [], ◌∷◌, map, Option, Some}
use Rattle.std.specs.FinMap.{is_sorted, get, entries, put}
use Rattle.schema.specs.declared.RowId.{RowId}
use Rattle.schema.specs.RowId.{row_cmp}
use Rattle.rows.specs.Database.{Database}
pub use Rattle.rows.specs.Database.{put_row}

-- a row and its new columns, or none where it is removed
abbrev pub Entry : Type 0
Entry = RowId × Option (List ℤ)

-- the row ids strictly rise, so that no row comes twice
abbrev pub IsRising : List Entry → Type 0
IsRising entries = IsTrue (is_sorted row_cmp entries)

-- what a batch leaves
abbrev pub put_batch : List Entry → Database → Database
put_batch [] db = db
put_batch (entry ∷ entries) db = put_batch entries (put_row db entry.0 entry.1)

-- what batches leave, put one after another
abbrev pub put_batches : List (List Entry) → Database → Database
put_batches [] db = db
put_batches (batch ∷ batches) db = put_batches batches (put_batch batch db)

-- the entries in the order of row ids; where two are of one row, the first of them
abbrev pub in_order : List Entry → List Entry
in_order [] = []
in_order (entry ∷ entries) = put row_cmp entry.0 entry.1 (in_order entries)

-- these rows as they are in a database, in the order of row ids and each once
abbrev pub rows_in : List RowId → Database → List Entry
rows_in rows db = in_order (map (λ id. (id, get db id)) rows)

-- all the rows of a database
abbrev pub all_rows : Database → List Entry
all_rows db = map (λ e. (e.0, Some e.1)) (entries db)
