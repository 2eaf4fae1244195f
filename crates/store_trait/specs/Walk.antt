-- A walk over the rows of a schema's tables, in the order of row ids.
use Rattle.std.specs.Prelude.{◌≡◌, ℕ, ℤ, ◌≤◌, ◌<◌, List, Option, Some, None, IsSome}
use Rattle.std.specs.declared.cmp.Ordering.TheVariants.{Less}
use Rattle.std.specs.FinMap.{get}
use Rattle.schema.specs.declared.Table.{Table}
use Rattle.schema.specs.declared.RowId.{RowId}
use Rattle.schema.specs.RowId.{row_cmp}
use Rattle.schema.specs.Schema.{table_at}
use Rattle.rows.specs.Database.{Database}

-- a table of the list has this id
abbrev pub IsListed : List Table → ℕ → Type 0
IsListed ts id = IsSome (table_at ts id)

-- the least id from a number on that a table of the list has
abbrev pub IsNextTable : List Table → ℕ → Option ℕ → Type 0
IsNextTable ts from None = (id : ℕ) → from ≤ id → table_at ts id ≡ None
IsNextTable ts from (Some id) = (from ≤ id) × IsListed ts id × ((other : ℕ) → from ≤ other → other < id → table_at ts other ≡ None)

-- of the rows that count, the first that is there
pub record IsFirst (db : Database) (Counts : RowId → Type 0) (id : RowId) (columns : List ℤ) : Type 0 where
  pub there : get db id ≡ Some columns
  pub counted : Counts id
  pub first : (other : RowId) → Counts other → row_cmp other id ≡ Less → get db other ≡ None

abbrev pub IsFirstOf : Database → (RowId → Type 0) → Option (RowId × List ℤ) → Type 0
IsFirstOf db Counts None = (id : RowId) → Counts id → get db id ≡ None
IsFirstOf db Counts (Some found) = IsFirst db Counts found.0 found.1

-- the row is of a table of the list, from a table id on
abbrev pub IsFromTable : List Table → ℕ → RowId → Type 0
IsFromTable ts from id = IsListed ts id.table × (from ≤ id.table)

-- the row stands behind the last one, if there is a last one
abbrev pub IsBehind : Option RowId → RowId → Type 0
IsBehind None id = Unit {0}
IsBehind (Some last) id = row_cmp last id ≡ Less

-- the row is of a table of the list, and behind the last one
abbrev pub IsAhead : List Table → Option RowId → RowId → Type 0
IsAhead ts last id = IsListed ts id.table × IsBehind last id

-- the last row, if there is one, is of a table of the list
abbrev pub IsOfTables : List Table → Option RowId → Type 0
IsOfTables ts None = Unit {0}
IsOfTables ts (Some last) = IsListed ts last.table
