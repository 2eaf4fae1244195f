-- Where a row stands among rows in order.
use Rattle.std.specs.Prelude.{◌≡◌, ℕ, ℤ, ◌+◌, ◌≤◌, Bool, ◌&&◌, ◌||◌, ◌==◌, nat_lt, true, false, List, length, take, drop, Option, Some, None, Result, MatchResult, int_le}
use Rattle.std.specs.List.{HoldsAt}
use Rattle.std.specs.List.Sorted.{IsPartitionPoint}
use Rattle.schema.specs.declared.RowId.{RowId}
use Rattle.vector_store.specs.Contents.{KeyedRow, AreBefore, AreBehind}

-- all rows up to the first place are before the id, and all from the second on behind it
pub record IsWindowOf (rows : List KeyedRow) (id : RowId) (low high : ℕ) : Type 0 where
  pub rises : low ≤ high
  pub within : high ≤ length rows
  pub before : AreBefore (take low rows) id
  pub behind : AreBehind id (drop high rows)

-- the place of the row, or else the one where it would stand
abbrev pub IsPlaceOf : List KeyedRow → RowId → Result ℕ ℕ → Type 0
IsPlaceOf rows id place =
    MatchResult place (λ at. IsWindowOf rows id at (at + 1) × HoldsAt (λ row. row.0 ≡ id) rows at) (λ at. IsWindowOf rows id at at)

-- the row stands before all rows of the table whose keys are above the bound
abbrev pub is_passed : ℕ → Option ℤ → RowId → Bool
is_passed table None id = nat_lt id.table table
is_passed table (Some bound) id = nat_lt id.table table || (id.table == table && int_le id.key bound)

-- the rows up to a place are passed, and those from it on are not
abbrev pub IsPassedUpTo : List KeyedRow → ℕ → Option ℤ → ℕ → Type 0
IsPassedUpTo rows table above from = IsPartitionPoint (λ row. is_passed table above row.0 ≡ true) (λ row. is_passed table above row.0 ≡ false) rows from
