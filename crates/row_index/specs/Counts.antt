-- How many children each row has, as a map beside a store's rows.
use Rattle.std.specs.Prelude.{◌≡◌, ℕ, ◌+◌, List, unwrap_or, Some, option_to_list}
use Rattle.std.specs.List.{count_by, flat_map}
use Rattle.std.specs.FinMap.{FinMap, get}
use Rattle.schema.specs.declared.Table.{Table}
use Rattle.schema.specs.declared.RowId.{RowId}
use Rattle.schema.specs.RowId.{row_cmp, same_row}
use Rattle.rows.specs.Database.{Database, parent_in}
use Rattle.store_trait.specs.Batch.{Entry}
use Rattle.rows.specs.Step.{parent_at}
use Rattle.overlay.specs.Children.{child_count}

abbrev pub Counts : Type 0
Counts = FinMap row_cmp ℕ

-- how many children a row is said to have
abbrev pub count_at : Counts → RowId → ℕ
count_at counts row = unwrap_or (get counts row) 0

-- the counts say how many children each row has in a database
abbrev pub CountsChildren : List Table → Database → Counts → Type 0
CountsChildren ts db counts = (row : RowId) → count_at counts row ≡ child_count ts db row

-- no row is kept whose count is 0
abbrev pub NoneIsZero : Counts → Type 0
NoneIsZero counts = (row : RowId) (count : ℕ) → get counts row ≡ Some count → ¬ (count ≡ 0)

-- the parents of these rows in a database, in order
abbrev pub parents_at : List Table → List RowId → Database → List RowId
parents_at ts rows db = flat_map (parent_in ts db) rows

-- the parents that entries give their rows, in order
abbrev pub parents_left : List Table → List Entry → List RowId
parents_left ts batch = flat_map (λ (entry : Entry). option_to_list (parent_at ts entry.0.table entry.1)) batch

-- how often a row is in a list
abbrev pub times_in : List RowId → RowId → ℕ
times_in rows row = count_by (same_row row) rows

-- The counts moved as children gave up these parents and got those.
abbrev pub Recounts : List RowId → List RowId → Counts → Counts → Type 0
Recounts old new before after = (row : RowId) → count_at after row + times_in old row ≡ count_at before row + times_in new row
