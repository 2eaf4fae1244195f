-- Sets of rows, given as lists: order and repeats do not count.
use Rattle.std.specs.Prelude.{◌≡◌, Bool, ◌||◌, List}
use Rattle.std.specs.List.{list_any}
use Rattle.schema.specs.declared.RowId.{RowId}
use Rattle.schema.specs.RowId.{same_row}

-- whether the row is among these
abbrev pub has_row : List RowId → RowId → Bool
has_row rows q = list_any (same_row q) rows

-- whether two sets have a row in common
abbrev pub meets : List RowId → List RowId → Bool
meets xs ys = list_any (has_row ys) xs

-- two lists are one set of rows
abbrev pub SameRows : List RowId → List RowId → Type 0
SameRows xs ys = (q : RowId) → has_row xs q ≡ has_row ys q

-- A mark is a value of a table's unique column. It is written as a row id is, with the value in the place of the key, so that
-- sets of marks are sets of row ids.
abbrev pub Mark : Type 0
Mark = RowId

-- the rows that a transaction writes, the parent rows that it refers to, and the values that it gives up or takes
pub record Touched : Type 0 where
  pub writes : List RowId
  pub refs : List RowId
  pub marks : List Mark

-- two transactions conflict where the writes of one meet the writes or the refs of the other, or where their marks meet
abbrev pub conflicts : Touched → Touched → Bool
conflicts a b = meets a.writes b.writes || meets a.writes b.refs || meets b.writes a.refs || meets a.marks b.marks
