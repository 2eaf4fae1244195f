-- What follows from the definitions.
use Rattle.std.specs.Prelude.{◌≡◌, ◌≢◌, ℕ, ◌≤◌, false, ◌&&◌, ◌||◌, ◌==◌, if◌then◌else◌, List, [], ◌∷◌, ◌++◌, Some, None, length}
use Rattle.std.specs.List.{list_any}
use Rattle.std.specs.FinMap.{empty, get}
use Rattle.schema.specs.declared.RowId.{RowId}
use Rattle.schema.specs.RowId.{same_row}
use Rattle.schema.specs.Rows.{Mark, has_row, conflicts}
use Rattle.row_locks.specs.declared.Mode.{Mode}
use Rattle.row_locks.specs.declared.Mode.TheVariants.{Share, Exclusive}
use Rattle.row_locks.specs.Mode.{opposes}
use Rattle.row_locks.specs.Locks.{Holding, Locks, AllLocks, no_locks, held_by, also_held, locks_on, holding, taken, released, NoClash}

-- no session of a new table holds a row
abbrev pub NothingHeld : Type 0
NothingHeld = (length no_locks ≡ 256) × ((session : ℕ) → held_by no_locks session ≡ empty)

-- what each session holds once one of them took a list of locks
abbrev pub TakenByOne : Type 0
TakenByOne =
    (locks : Locks) (session other : ℕ) (rows : List (RowId × Mode)) → 1 ≤ session → session ≤ length locks → 1 ≤ other →
    held_by (taken locks session rows) other ≡ (if other == session then also_held (held_by locks session) rows else held_by locks other)

-- what each session holds once one of them released its locks
abbrev pub ReleasedByOne : Type 0
ReleasedByOne =
    (locks : Locks) (session other : ℕ) → 1 ≤ session → session ≤ length locks → 1 ≤ other →
    held_by (released locks session) other ≡ (if other == session then empty else held_by locks other)

-- what a session holds clashes with a lock of another where what it held did, or a lock of its list does
abbrev pub HeldAsListed : Type 0
HeldAsListed =
    (held : Holding) (rows : List (RowId × Mode)) (row : RowId) (mode : Mode) →
    opposes (get (also_held held rows) row) mode ≡ (opposes (get held row) mode || list_any (λ lock. same_row row lock.0 && opposes (Some lock.1) mode) rows)

-- where no two sessions clash, two that hold one row share it
abbrev pub HoldersShare : Type 0
HoldersShare =
    (locks : Locks) → NoClash locks → (session other : ℕ) (row : RowId) (mode mode' : Mode) → 1 ≤ session → 1 ≤ other → session ≢ other →
    get (held_by locks session) row ≡ Some mode → get (held_by locks other) row ≡ Some mode' → (mode ≡ Share) × (mode' ≡ Share)

-- how a session holds a row that took rows to write, and rows that it refers to for sharing
abbrev pub HeldByRows : Type 0
HeldByRows =
    (writes refs : List RowId) (row : RowId) → get (holding writes refs) row ≡ (if has_row writes row then Some Exclusive else if has_row refs row then Some Share else None)

-- one more row to write, with rows that it refers to, goes behind the others
abbrev pub HoldsMoreRows : Type 0
HoldsMoreRows =
    (writes refs : List RowId) (row : RowId) (more : List RowId) →
    also_held (holding writes refs) ((row, Exclusive) ∷ locks_on Share more) ≡ holding (writes ++ row ∷ []) (refs ++ more)

-- marks more go behind those that a session holds
abbrev pub HoldsMoreMarks : Type 0
HoldsMoreMarks = (marks more : List Mark) → also_held (holding marks []) (locks_on Exclusive more) ≡ holding (marks ++ more) []

-- where no two sessions clash, neither by rows nor by marks, what two of them touch does not conflict
abbrev pub HoldersDoNotConflict : Type 0
HoldersDoNotConflict =
    (locks : AllLocks) → NoClash locks.rows → NoClash locks.marks →
    (session other : ℕ) (writes refs : List RowId) (marks : List Mark) (writes' refs' : List RowId) (marks' : List Mark) → 1 ≤ session → 1 ≤ other → session ≢ other →
    held_by locks.rows session ≡ holding writes refs → held_by locks.marks session ≡ holding marks [] →
    held_by locks.rows other ≡ holding writes' refs' → held_by locks.marks other ≡ holding marks' [] →
    conflicts (record { writes = writes; refs = refs; marks = marks }) (record { writes = writes'; refs = refs'; marks = marks' }) ≡ false
