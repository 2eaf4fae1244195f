-- What a store answers, said of the finite map that it contains.
use Rattle.std.specs.Prelude.{◌≡◌, ℕ, ℤ, ◌<ℤ◌, List, slice_get, Option, Some, None, MatchOption}
use Rattle.std.specs.FinMap.{get}
use Rattle.schema.specs.declared.RowId.{RowId}
use Rattle.rows.specs.Database.{Database}

-- a key is above a bound, where there is one
abbrev pub IsAbove : Option ℤ → ℤ → Type 0
IsAbove None key = Unit {0}
IsAbove (Some bound) key = bound <ℤ key

abbrev pub row_at : ℕ → ℤ → RowId
row_at table key = record { table = table; key = key }

-- the table has no row whose key is above the bound
abbrev pub NoneAbove : Database → ℕ → Option ℤ → Type 0
NoneAbove db table bound = (key : ℤ) → IsAbove bound key → get db (row_at table key) ≡ None

-- the row with the least key above the bound
pub record IsLeastAbove (db : Database) (table : ℕ) (bound : Option ℤ) (key : ℤ) (columns : List ℤ) : Type 0 where
  pub there : get db (row_at table key) ≡ Some columns
  pub above : IsAbove bound key
  pub least : (other : ℤ) → IsAbove bound other → other <ℤ key → get db (row_at table other) ≡ None

-- the table's first row above the bound, in the order of keys
abbrev pub IsNextInTable : Database → ℕ → Option ℤ → Option (ℤ × List ℤ) → Type 0
IsNextInTable db table bound next = MatchOption next (NoneAbove db table bound) (λ found. IsLeastAbove db table bound found.0 found.1)

-- the row of the table with this key is there, and has the value in the column
pub record HasValue (db : Database) (table column : ℕ) (value key : ℤ) : Type 0 where
  pub columns : List ℤ
  pub there : get db (row_at table key) ≡ Some columns
  pub value_there : slice_get columns column ≡ Some value

-- the least key of a row of the table that has the value in the column
pub record IsLeastWithValue (db : Database) (table column : ℕ) (value key : ℤ) : Type 0 where
  pub has : HasValue db table column value key
  pub least : (other : ℤ) → other <ℤ key → ¬ HasValue db table column value other

-- the first row of the table, in the order of keys, that has the value in the column
abbrev pub IsHolder : Database → ℕ → ℕ → ℤ → Option ℤ → Type 0
IsHolder db table column value found =
    MatchOption found ((key : ℤ) → ¬ HasValue db table column value key) (IsLeastWithValue db table column value)
