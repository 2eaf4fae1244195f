-- What a source is seen as.
use Rattle.std.specs.Prelude.{◌≡◌, ℕ, ℤ, ◌-◌, ◌<◌, ◌≤◌, ◌^◌, Bool, true, false, ◌&&◌, nat_le, List, [], ◌∷◌, map, take, length, replicate, slice_index_or, Option, None, IsSome, option_and_then}
use Rattle.std.specs.Option.{option_map_or}
use Rattle.std.specs.List.{list_all}
use Rattle.std.specs.FinMap.{empty, get}
use Rattle.schema.specs.declared.Table.{Table}
use Rattle.schema.specs.declared.RowId.{RowId}
use Rattle.schema.specs.Rows.{Mark}
use Rattle.rows.specs.declared.Change.{Change}
use Rattle.rows.specs.Database.{Database, writes, kin, marks, effect}
use Rattle.rows.specs.Shape.{is_shaped}
use Rattle.store_trait.specs.Batch.{Entry}
use Rattle.record_codec.specs.declared.records.Record.{Record}
use Rattle.record_codec.specs.Log.{after, IsLegalLog, AreShaped}
use Rattle.log_index.specs.declared.Entry.{Entry as Seen}
use Rattle.log_index.specs.Footprint.{footprint_of}
use Rattle.row_locks.specs.declared.Mode.{Mode}
use Rattle.commit_stages.specs.Queues.{AreSizes}
use Rattle.row_locks.specs.Locks.{Holding, AllLocks, holding, clashes_with, mark_clashes}
use Rattle.tracker_trait.specs.Kind.{Kind}
use Rattle.source_core.specs.declared.transaction.Phase.{Phase}
use Rattle.store_trait.specs.Operation.{loaded}

-- an open transaction: the changes that it wrote, in order, and how far it has come
pub record Open : Type 0 where
  pub changes : List Change
  pub phase : Phase

pub record Source : Type 0 where
  pub tables : List Table
  -- the rows before the first transaction, as the batch that loads them
  pub base : List Entry
  -- the greatest number of records
  pub limit : ℕ
  -- how its tracker finds parents
  pub kind : Kind
  -- the records flushed; of these the first so many are synced, and the first so many committed
  pub log : List Record
  pub synced : ℕ
  pub committed : ℕ
  -- the session that each record came from
  pub owners : List ℕ
  -- the open transaction of each session, session 1 first
  pub sessions : List (Option Open)
  -- the sessions whose transactions are queued, in order
  pub queue : List ℕ
  -- how many records each unsynced group has, the oldest group first
  pub group_sizes : List ℕ
  pub halted : Bool
  -- whether it keeps all records; else the committed ones may be gone
  pub keeps : Bool

-- what a source begins with: the tables, and the rows as the batch that loads them
pub record Start : Type 0 where
  pub tables : List Table
  pub base : List Entry

abbrev pub is_session : Source → ℕ → Bool
is_session s session = nat_le 1 session && nat_le session (length s.sessions)

abbrev pub open_of : Source → ℕ → Option Open
open_of s session = slice_index_or s.sessions (session - 1) None

-- the database after the committed records
abbrev pub committed_rows : Source → Option Database
committed_rows s = after s.tables (loaded s.base) (take s.committed s.log)

-- the changes of a session's open transaction
abbrev pub changes_of : Source → ℕ → List Change
changes_of s session = option_map_or (λ t. t.changes) (open_of s session) []

-- the committed database with the session's own changes
abbrev pub session_rows : Source → ℕ → Option Database
session_rows s session = option_and_then (effect s.tables (changes_of s session)) (committed_rows s)

-- each session's own changes apply to the committed database, so what it sees is defined
abbrev pub EachApplies : Source → Type 0
EachApplies s = (session : ℕ) → IsSome (session_rows s session)

-- the row that a session sees
abbrev pub seen_row : Source → ℕ → RowId → Option (List ℤ)
seen_row s session id = option_and_then (λ db. get db id) (session_rows s session)

-- What a session holds of rows for its open transaction: exclusively the rows that it writes, and for sharing the kin of its
-- changes over the committed database. It holds them until the transaction ends.
abbrev pub held_for : List Table → Database → Option Open → Holding
held_for ts db open_ = option_map_or (λ t. holding (writes t.changes) (kin ts t.changes db)) open_ empty

-- and of marks: exclusively those of its changes over the committed database, as long
abbrev pub marks_held_for : List Table → Database → Option Open → Holding
marks_held_for ts db open_ = option_map_or (λ t. holding (marks ts t.changes db) []) open_ empty

-- what each session holds, session 1 first
abbrev pub locks_over : List Table → Database → List (Option Open) → AllLocks
locks_over ts db sessions = record { rows = map (held_for ts db) sessions; marks = map (marks_held_for ts db) sessions }

-- another session holds the row in a way that clashes with a lock of this mode
abbrev pub is_locked : Source → ℕ → RowId → Mode → Bool
is_locked s session row mode =
    option_map_or (λ db. clashes_with (locks_over s.tables db s.sessions).rows session row mode) (committed_rows s) false

-- another session holds the mark
abbrev pub is_mark_locked : Source → ℕ → Mark → Bool
is_mark_locked s session mark =
    option_map_or (λ db. mark_clashes (locks_over s.tables db s.sessions) session mark) (committed_rows s) false

-- a record as a tracker sees it, with the session that it came from
abbrev pub entry_of : List Table → Record → ℕ → Seen
entry_of ts made owner = record {
  sequence = made.sequence;
  parent = made.parent;
  session = owner;
  footprint = footprint_of ts (writes made.changes) made.refs made.marks;
}

-- records as a tracker sees them, each with its session
abbrev pub entries_of : List Table → List Record → List ℕ → List Seen
entries_of ts [] owners = []
entries_of ts (made ∷ log) [] = []
entries_of ts (made ∷ log) (owner ∷ owners) = entry_of ts made owner ∷ entries_of ts log owners

-- a source that nothing was done to, of 256 sessions
abbrev pub new_source : List Table → List Entry → ℕ → Kind → Source
new_source ts base limit kind = record {
  tables = ts;
  base = base;
  limit = limit;
  kind = kind;
  log = [];
  synced = 0;
  committed = 0;
  owners = [];
  sessions = replicate 256 None;
  queue = [];
  group_sizes = [];
  halted = false;
  keeps = true;
}

-- whether each change is of a table of the schema that has the columns that it gives or names
abbrev pub are_shaped : List Table → List Change → Bool
are_shaped ts changes = list_all (is_shaped ts) changes

-- What is true of every source: its log is legal and not too long, its changes are such as the schema allows, its
-- counts are in order, the unsynced records are those of its groups, and it has 256 sessions.
pub record IsSound (s : Source) : Type 0 where
  pub sessions : length s.sessions ≡ 256
  pub legal : IsLegalLog s.tables (loaded s.base) s.log
  pub shaped : AreShaped s.tables s.log
  pub few : length s.log ≤ s.limit
  pub bound : s.limit < 2 ^ 63
  pub synced_within : s.synced ≤ length s.log
  pub committed_within : s.committed ≤ s.synced
  pub owned : length s.owners ≡ length s.log
  pub grouped : AreSizes s.group_sizes (length s.log - s.synced)
