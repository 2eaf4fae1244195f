-- What follows from the definitions.
use Rattle.std.specs.Prelude.{◌≡◌, ℕ, ◌≤◌, ◌↔◌, true, List, [], ◌∷◌, ◌++◌, slice_get, Some}
use Rattle.std.specs.List.{AllByRecursion}
use Rattle.schema.specs.declared.Table.{Table}
use Rattle.schema.specs.declared.RowId.{RowId}
use Rattle.schema.specs.Flags.{flags_of, flags_with}
use Rattle.schema.specs.Rows.{Touched, conflicts, SameRows}
use Rattle.schema.specs.Covering.{Covers}

-- a row more adds the flags of its table
abbrev pub FlagsRowByRow : Type 0
FlagsRowByRow = (ts : List Table) (rows : List RowId) (row : RowId) → flags_of ts (rows ++ row ∷ []) ≡ flags_with ts (flags_of ts rows) row.table

-- two transactions conflict, whichever of the two is named first
abbrev pub ConflictsBothWays : Type 0
ConflictsBothWays = (a b : Touched) → conflicts a b ≡ conflicts b a

-- only the sets of rows count, and not how they are listed
abbrev pub ConflictsBySets : Type 0
ConflictsBySets = (a b other : Touched) → SameRows a.writes b.writes → SameRows a.refs b.refs → SameRows a.marks b.marks → conflicts a other ≡ conflicts b other

-- what conflicts with these rows is numbered at most the parent, one by one
abbrev pub CoversEach : Type 0
CoversEach = (past : List (ℕ × Touched)) (rows : Touched) (parent : ℕ) →
    Covers past rows parent ↔ ((i number : ℕ) (before : Touched) → slice_get past i ≡ Some (number, before) → conflicts before rows ≡ true → number ≤ parent)

-- a parent covers one transaction more where it covers those before it, and that one where it conflicts
abbrev pub CoversLonger : Type 0
CoversLonger = (past : List (ℕ × Touched)) (number : ℕ) (last rows : Touched) (parent : ℕ) →
    Covers (past ++ (number, last) ∷ []) rows parent ↔ (Covers past rows parent × (conflicts last rows ≡ true → number ≤ parent))

-- a greater parent covers too
abbrev pub CoversFromLess : Type 0
CoversFromLess = (past : List (ℕ × Touched)) (rows : Touched) (less parent : ℕ) → less ≤ parent → Covers past rows less → Covers past rows parent

-- a parent that nothing is numbered above covers all rows
abbrev pub CoversAtEnd : Type 0
CoversAtEnd = (past : List (ℕ × Touched)) (rows : Touched) (parent : ℕ) → AllByRecursion (λ before. before.0 ≤ parent) past → Covers past rows parent

-- only the sets of rows count, and not how they are listed
abbrev pub CoversBySets : Type 0
CoversBySets = (past : List (ℕ × Touched)) (rows others : Touched) (parent : ℕ) → SameRows rows.writes others.writes → SameRows rows.refs others.refs → SameRows rows.marks others.marks →
    Covers past rows parent → Covers past others parent
