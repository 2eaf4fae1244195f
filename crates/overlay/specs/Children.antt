-- Rows that name a row as their parent.
use Rattle.std.specs.Prelude.{◌≡◌, ◌↔◌, ◌||◌, ℕ, ℤ, Bool, true, false, nat_lt, List}
use Rattle.std.specs.List.{list_any, count_by}
use Rattle.std.specs.Option.{option_map_or}
use Rattle.std.specs.FinMap.{get, entries}
use Rattle.schema.specs.declared.Table.{Table}
use Rattle.schema.specs.declared.RowId.{RowId}
use Rattle.schema.specs.RowId.{same_row}
use Rattle.rows.specs.Database.{Database, parent_of, HasChild}
use Rattle.store_trait.specs.Batch.{Entry, IsRising}
use Rattle.overlay.specs.Pending.{Pending, seen}

-- whether these columns of a row of the table name this row as its parent
abbrev pub names_row : List Table → RowId → ℕ → List ℤ → Bool
names_row ts row id columns = option_map_or (same_row row) (parent_of ts id columns) false

-- whether a row of the database names this row as its parent
abbrev pub has_child : List Table → Database → RowId → Bool
has_child ts db row = list_any (λ e. names_row ts row e.0.table e.1) (entries db)

-- how many rows of the database do
abbrev pub child_count : List Table → Database → RowId → ℕ
child_count ts db row = count_by (λ e. names_row ts row e.0.table e.1) (entries db)

-- the first tells whether there is such a row
abbrev pub TellsChildren : Type 0
TellsChildren = (ts : List Table) (db : Database) (row : RowId) → (has_child ts db row ≡ true) ↔ HasChild ts db row

-- whether what is left of a row names this row as its parent
abbrev pub left_names : List Table → RowId → Entry → Bool
left_names ts row entry = option_map_or (names_row ts row entry.0.table) entry.1 false

-- how many of the rows that the transaction changed name this row as their parent in the database
abbrev pub changed_children : List Table → Database → Pending → RowId → ℕ
changed_children ts db pending row = count_by (λ (entry : Entry). left_names ts row (entry.0, get db entry.0)) pending.left

-- Whether a row that the transaction sees names this row as its parent, where so many rows of the database do: one that it left does,
-- or more rows do in the database than it changed of these.
abbrev pub has_child_by : List Table → Database → Pending → ℕ → RowId → Bool
has_child_by ts db pending count row = list_any (left_names ts row) pending.left || nat_lt (changed_children ts db pending row) count

-- where that is how many rows of the database do, it tells
abbrev pub TellsByCount : Type 0
TellsByCount = (ts : List Table) (db : Database) (pending : Pending) (row : RowId) → IsRising pending.left →
    has_child_by ts db pending (child_count ts db row) row ≡ has_child ts (seen pending db) row
