-- Which sessions hold which rows and which marks, and how.
use Rattle.std.specs.Prelude.{◌≡◌, ℕ, ◌-◌, Bool, false, ◌||◌, List, [], ◌∷◌, ◌++◌, map, Some, replicate, slice_index_or, slice_set, length, refl}
use Rattle.std.specs.Coded.{Coded, code_by, coded×, coded_list}
use Rattle.std.specs.FinMap.{FinMap, code, empty, get, insert}
use Rattle.std.specs.List.{list_any}
use Rattle.schema.specs.declared.RowId.{RowId}
use Rattle.schema.specs.RowId.{row_cmp, coded_row_id}
use Rattle.schema.specs.Rows.{Mark}
use Rattle.row_locks.specs.declared.Mode.{Mode}
use Rattle.row_locks.specs.declared.Mode.TheVariants.{Share, Exclusive}
use Rattle.row_locks.specs.Mode.{coded_mode, opposes, stronger}

-- The rows that a session holds, and how it holds each. What it holds of marks is written so too: a mark is written as a row id.
abbrev pub Holding : Type 0
Holding = FinMap row_cmp Mode

-- what each session holds of rows, or of marks, session 1 first
abbrev pub Locks : Type 0
Locks = List Holding

abbrev pub holding_code : Coded Holding
holding_code = code coded_row_id coded_mode

abbrev pub locks_code : Coded Locks
locks_code = coded_list holding_code

-- 256 sessions that hold nothing
unfoldable pub no_locks : Locks
no_locks = replicate 256 empty

-- the rows that the session holds
abbrev pub held_by : Locks → ℕ → Holding
held_by locks session = slice_index_or locks (session - 1) empty

-- with no lock of the session, and those of the others as they were
abbrev pub released : Locks → ℕ → Locks
released locks session = slice_set locks (session - 1) empty

-- another session holds the row in a way that clashes with a lock of this mode
abbrev pub clashes_with : Locks → ℕ → RowId → Mode → Bool
clashes_with locks session row mode = list_any (λ held. opposes (get held row) mode) (released locks session)

-- one of these locks clashes with one of another session
abbrev pub any_clashes : Locks → ℕ → List (RowId × Mode) → Bool
any_clashes locks session rows = list_any (λ lock. clashes_with locks session lock.0 lock.1) rows

-- what a session holds once it took these locks too, one after another
abbrev pub also_held : Holding → List (RowId × Mode) → Holding
also_held held [] = held
also_held held (lock ∷ rest) = also_held (insert held lock.0 (stronger (get held lock.0) lock.1)) rest

-- a lock on each of these rows
abbrev pub locks_on : Mode → List RowId → List (RowId × Mode)
locks_on mode rows = map (λ row. (row, mode)) rows

-- what a session holds that took rows to write, and rows that it refers to for sharing
abbrev pub holding : List RowId → List RowId → Holding
holding writes refs = also_held empty (locks_on Exclusive writes ++ locks_on Share refs)

-- with these locks of the session too, and those of the others as they were
abbrev pub taken : Locks → ℕ → List (RowId × Mode) → Locks
taken locks session rows = slice_set locks (session - 1) (also_held (held_by locks session) rows)

-- no two sessions clash: no row that a session holds is held by another in a way that clashes
abbrev pub NoClash : Locks → Type 0
NoClash locks =
    (session : ℕ) (row : RowId) (mode : Mode) → get (held_by locks session) row ≡ Some mode → clashes_with locks session row mode ≡ false

-- ---- rows and marks

-- what each session holds of rows, and what it holds of marks
pub record AllLocks : Type 0 where
  pub rows : Locks
  pub marks : Locks

abbrev pub all_locks_code : Coded AllLocks
all_locks_code =
    code_by (Locks × Locks) (coded× locks_code locks_code) (λ l. (l.rows, l.marks)) (λ p. record { rows = p.0; marks = p.1 }) (λ _. refl)

-- 256 sessions that hold no row and no mark
abbrev pub all_free : AllLocks
all_free = record { rows = no_locks; marks = no_locks }

-- another session holds the mark
abbrev pub mark_clashes : AllLocks → ℕ → Mark → Bool
mark_clashes locks session mark = clashes_with locks.marks session mark Exclusive

-- one of these locks on rows clashes with one of another session, or another session holds one of these marks
abbrev pub any_clashes_all : AllLocks → ℕ → List (RowId × Mode) → List Mark → Bool
any_clashes_all locks session rows marks = any_clashes locks.rows session rows || list_any (mark_clashes locks session) marks

-- with these locks of the session on rows too, and with these marks of it
abbrev pub taken_all : AllLocks → ℕ → List (RowId × Mode) → List Mark → AllLocks
taken_all locks session rows marks = record { rows = taken locks.rows session rows; marks = taken locks.marks session (locks_on Exclusive marks) }

-- with no lock of the session, neither on a row nor on a mark
abbrev pub released_all : AllLocks → ℕ → AllLocks
released_all locks session = record { rows = released locks.rows session; marks = released locks.marks session }

-- of 256 sessions no two clash, neither by rows nor by marks
pub record IsClear (locks : AllLocks) : Type 0 where
  pub rows : NoClash locks.rows
  pub marks : NoClash locks.marks
  pub row_places : length locks.rows ≡ 256
  pub mark_places : length locks.marks ≡ 256
