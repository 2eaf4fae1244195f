-- What ties the counts of rows to what the sessions hold.
use Rattle.std.specs.Prelude.{◌≡◌, ◌+◌, ◌≤◌, length}
use Rattle.std.specs.List.{count_by}
use Rattle.std.specs.FinMap.{get}
use Rattle.schema.specs.declared.RowId.{RowId}
use Rattle.row_locks.specs.declared.Mode.{Mode}
use Rattle.row_locks.specs.Mode.{opposes, weight}
use Rattle.row_locks.specs.Locks.{Holding, Locks, NoClash}
use Rattle.row_locks.specs.Tally.{Counts, count_at}

-- each of 256 sessions is counted at each row that it holds, and no two of them clash
pub record IsTied (locks : Locks) (counts : Counts) : Type 0 where
  pub places : length locks ≡ 256
  pub no_clash : NoClash locks
  pub counted : (row : RowId) (mode : Mode) → count_at counts row mode ≡ count_by (λ held. opposes (get held row) mode) locks

-- a session's own locks are counted, beside those of at most 256 others
pub record IsCounted (held : Holding) (counts : Counts) : Type 0 where
  pub least : (row : RowId) (mode : Mode) → weight (get held row) mode ≤ count_at counts row mode
  pub greatest : (row : RowId) (mode : Mode) → count_at counts row mode ≤ weight (get held row) mode + 256

-- the counts moved as what one session holds did
abbrev pub MovesAlike : Holding → Counts → Holding → Counts → Type 0
MovesAlike held counts held' counts' =
    (row : RowId) (mode : Mode) → count_at counts' row mode + weight (get held row) mode ≡ count_at counts row mode + weight (get held' row) mode
