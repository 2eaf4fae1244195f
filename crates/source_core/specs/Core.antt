-- How a source's parts stand together.
use Rattle.std.specs.Prelude.{◌≡◌, ℕ, ◌+◌, ◌-◌, ◌<◌, ◌≤◌, ◌^◌, IsTrue, true, if◌then◌else◌, Bool, List, [], ◌∷◌, length, map, take, drop, replicate, slice_get, slice_index_or, Option, Some, None}
use Rattle.std.specs.FinMap.{empty}
use Rattle.std.specs.List.{list_any, AllByRecursion, IsDistinct}
use Rattle.std.specs.Option.{option_map, option_map_or}
use Rattle.std.proofs.Common.{reverse, eqb}
use Rattle.schema.specs.declared.Table.{Table}
use Rattle.schema.specs.Rows.{SameRows, Touched}
use Rattle.schema.specs.Covering.{Covers}
use Rattle.rows.specs.declared.Change.{Change}
use Rattle.rows.specs.declared.step.Step.{Step}
use Rattle.rows.specs.Database.{Database, writes, LeavesNoOrphan}
use Rattle.store_trait.specs.Batch.{Entry, put_batch, all_rows}
use Rattle.store_trait.specs.Fits.{Fits}
use Rattle.overlay.specs.Pending.{Pending, none_pending, pushed}
use Rattle.overlay.specs.Follows.{Follows}
use Rattle.record_codec.specs.declared.records.Record.{Record}
use Rattle.record_codec.specs.Log.{after, place_of, touched, IsLegalLog, AreShaped}
use Rattle.log_index.specs.declared.Entry.{Entry as Seen}
use Rattle.gone_records.specs.Going.{MayBeGone}
use Rattle.commit_stages.specs.Queues.{Queues, AreSizes, no_queues}
use Rattle.row_index.specs.Keys.{Keys, Indexes}
use Rattle.row_index.specs.Counts.{Counts, CountsChildren}
use Rattle.row_locks.specs.Locks.{Holding, AllLocks, NoClash, holding, all_free}
use Rattle.tracker_trait.specs.History.{last_of}
use Rattle.tracker_trait.specs.Kind.{Kind}
use Rattle.source_core.specs.declared.transaction.Phase.{Phase}
use Rattle.source_core.specs.declared.transaction.Phase.TheVariants.{Active, Prepared, Queued, Flushed}
use Rattle.source_core.specs.declared.transaction.Transaction.{Transaction}
use Rattle.source_core.specs.declared.transaction.Prepared.{Prepared as Answer}
use Rattle.source_core.specs.declared.transaction.Prepared.TheVariants as answers
use Rattle.source_core.specs.Calls.{is_empty_list}
use Rattle.source_core.specs.Source.{Source, Open, entries_of, are_shaped}

abbrev pub open_view : Transaction → Open
open_view t = record { changes = t.pending.changes; phase = t.phase }

-- each session's transaction as callers see it
abbrev pub sessions_view : List (Option Transaction) → List (Option Open)
sessions_view places = map (option_map open_view) places

-- what a source keeps, but for what its tracker keeps: the rows are those of its store, with the key of the row that has each mark and
-- how many children each row has, and the entries are what trackers see of the log
pub record Parts : Type 0 where
  pub tables : List Table
  pub rows : Database
  pub index : Keys
  pub children : Counts
  pub base : List Entry
  pub limit : ℕ
  pub log : List Record
  pub synced : ℕ
  pub committed : ℕ
  pub owners : List ℕ
  pub entries : List Seen
  -- the transaction of each session, session 1 first
  pub places : List (Option Transaction)
  -- the sessions that wait, by what they wait for
  pub stages : Queues
  pub locks : AllLocks
  -- whether all records are kept, and how many of the first are gone
  pub keeps : Bool
  pub gone : ℕ

abbrev pub parts_of : List Table → Database → Keys → Counts → List Entry → ℕ → List Record → ℕ → ℕ → List Seen → List (Option Transaction) → Queues → AllLocks → Bool → ℕ → Parts
parts_of ts rows index children base limit log synced_ committed_ entries places stages locks keeps gone = record {
  tables = ts;
  rows = rows;
  index = index;
  children = children;
  base = base;
  limit = limit;
  log = log;
  synced = synced_;
  committed = committed_;
  owners = map (λ e. e.session) entries;
  entries = entries;
  places = places;
  stages = stages;
  locks = locks;
  keeps = keeps;
  gone = gone;
}

abbrev pub source_of : Parts → Kind → Bool → Source
source_of p kind halted = record {
  tables = p.tables;
  base = p.base;
  limit = p.limit;
  kind = kind;
  log = p.log;
  synced = p.synced;
  committed = p.committed;
  owners = p.owners;
  sessions = sessions_view p.places;
  queue = p.stages.flush;
  group_sizes = p.stages.sizes;
  halted = halted;
  keeps = p.keeps;
}

-- the transaction in a place, counted from 0
abbrev pub placed : List (Option Transaction) → ℕ → Option Transaction
placed places i = slice_index_or places i None

-- what the transaction of a place has pending
abbrev pub pending_in : Option Transaction → Pending
pending_in place = option_map_or (λ t. t.pending) place none_pending

-- what changes that are pending touch: the rows that they write, their kin and their marks
abbrev pub touched_in : Pending → Touched
touched_in pending = record { writes = writes pending.changes; refs = pending.kin; marks = pending.marks }

-- what a session holds for them, of rows and of marks
abbrev pub rows_held : Pending → Holding
rows_held pending = holding (writes pending.changes) pending.kin

abbrev pub marks_held : Pending → Holding
marks_held pending = holding pending.marks []

-- what each session holds
abbrev pub locks_in : List Pending → AllLocks
locks_in pendings = record { rows = map rows_held pendings; marks = map marks_held pendings }

-- two transactions touch the same rows and marks
pub record SameTouched (a b : Touched) : Type 0 where
  pub writes : SameRows a.writes b.writes
  pub refs : SameRows a.refs b.refs
  pub values : SameRows a.marks b.marks

-- Changes that are pending are such as the schema allows, and apply to the committed rows, where they delete no row that
-- has a child then, and leave rows that the schema allows.
pub record Applies (ts : List Table) (rows : Database) (pending : Pending) : Type 0 where
  pub leaves : Database
  pub follows : Follows ts rows pending leaves
  pub fits : Fits ts leaves
  pub shaped : are_shaped ts pending.changes ≡ true
  pub few : length pending.changes ≤ 1024
  pub no_orphan : LeavesNoOrphan ts pending.changes rows

-- how far a log has come, by which each transaction stands, and the sessions that are queued
pub record Course : Type 0 where
  pub log : List Record
  pub committed : ℕ
  pub owners : List ℕ
  pub entries : List Seen
  pub queue : List ℕ

abbrev pub course_of : Parts → Course
course_of p = record { log = p.log; committed = p.committed; owners = p.owners; entries = p.entries; queue = p.stages.flush }

-- A transaction of this session is prepared: its order parent was committed then and covers it in the whole log, and
-- is not before the session's last record.
pub record IsReady (log : List Record) (committed_ : ℕ) (entries : List Seen) (session : ℕ) (pending : Pending) (order : ℕ) : Type 0 where
  pub some : 1 ≤ length pending.changes
  pub within : order ≤ committed_
  pub covers : Covers (map place_of log) (touched_in pending) order
  pub own : last_of (reverse entries) session ≤ order

-- A transaction of this session is the record of this number, which is not committed.
pub record IsLogged (log : List Record) (committed_ : ℕ) (owners : List ℕ) (session gno : ℕ) : Type 0 where
  pub later : committed_ < gno
  pub there : gno ≤ length log
  pub owner : slice_get owners (gno - 1) ≡ Some session

-- where a transaction stands that has this pending
abbrev pub StandsAs : Course → ℕ → Pending → Phase → Type 0
StandsAs c session pending Active = Unit {0}
StandsAs c session pending (Prepared order) = IsReady c.log c.committed c.entries session pending order
StandsAs c session pending (Queued order) = IsReady c.log c.committed c.entries session pending order × IsTrue (list_any (eqb session) c.queue)
StandsAs c session pending (Flushed gno) = IsLogged c.log c.committed c.owners session gno

-- The record of this number is that of the transaction in its session's place.
pub record IsFlushedAs (places : List (Option Transaction)) (number : ℕ) (made : Record) (owner : ℕ) : Type 0 where
  pub least : 1 ≤ owner
  pub t : Transaction
  pub place : placed places (owner - 1) ≡ Some t
  pub phase : t.phase ≡ Flushed number
  pub changes : made.changes ≡ t.pending.changes
  pub touches : SameTouched (touched made) (touched_in t.pending)

-- these records, the first of this number, are those of the transactions in their sessions' places
abbrev pub AreFlushed : List (Option Transaction) → ℕ → List Record → List ℕ → Type 0
AreFlushed places number [] [] = Unit {0}
AreFlushed places number (made ∷ log) (owner ∷ owners) = IsFlushedAs places number made owner × AreFlushed places (number + 1) log owners
AreFlushed places number [] (owner ∷ owners) = ⊥
AreFlushed places number (made ∷ log) [] = ⊥

-- the session's transaction is queued
pub record IsQueued (places : List (Option Transaction)) (session : ℕ) : Type 0 where
  pub least : 1 ≤ session
  pub t : Transaction
  pub order : ℕ
  pub place : placed places (session - 1) ≡ Some t
  pub phase : t.phase ≡ Queued order

abbrev pub AreQueued : List (Option Transaction) → List ℕ → Type 0
AreQueued places queue = AllByRecursion (IsQueued places) queue

-- The log is legal, and its changes are such as the schema allows; each record has the session that it came from, and trackers
-- see it so.
pub record IsTrackedLog (ts : List Table) (base : List Entry) (log : List Record) (owners : List ℕ) (entries : List Seen) : Type 0 where
  pub legal : IsLegalLog ts (put_batch base empty) log
  pub shaped : AreShaped ts log
  pub owned : length owners ≡ length log
  pub seen : entries ≡ entries_of ts log owners

-- The store has the rows after the committed records, which the schema allows; index and counts are those of these rows.
pub record IsStored (ts : List Table) (base : List Entry) (log : List Record) (committed : ℕ) (rows : Database) (index : Keys) (children : Counts) : Type 0 where
  pub rows_are : after ts (put_batch base empty) (take committed log) ≡ Some rows
  pub fits : Fits ts rows
  pub indexed : Indexes ts rows index
  pub counted : CountsChildren ts rows children

-- The base has all rows of a store without records, which stands so.
pub record IsStart (ts : List Table) (base : List Entry) (index : Keys) (children : Counts) : Type 0 where
  pub whole : base ≡ all_rows (put_batch base empty)
  pub stored : IsStored ts base [] 0 (put_batch base empty) index children

-- No session has a transaction or a lock, and nothing waits.
pub record IsIdle (places : List (Option Transaction)) (stages : Queues) (locks : AllLocks) : Type 0 where
  pub no_places : places ≡ replicate 256 None
  pub no_stages : stages ≡ no_queues
  pub none : locks ≡ all_free
  pub no_clash : NoClash locks.rows
  pub no_mark_clash : NoClash locks.marks

-- Each open transaction applies to the committed rows, and holds its rows, their kin and its marks; no two sessions clash, neither by
-- rows nor by marks. The records that are not committed are those of the flushed transactions, and the queue those that are queued,
-- each once. The unsynced ones are those of the groups.
pub record IsCore (p : Parts) : Type 0 where
  pub logged : IsTrackedLog p.tables p.base p.log p.owners p.entries
  pub stored : IsStored p.tables p.base p.log p.committed p.rows p.index p.children
  pub few : length p.log + length p.stages.flush ≤ p.limit
  pub bound : p.limit < 2 ^ 63
  pub synced_within : p.synced ≤ length p.log
  pub committed_within : p.committed ≤ p.synced
  pub grouped : AreSizes p.stages.sizes (length p.log - p.synced)
  pub sessions : length p.places ≡ 256
  pub locks : p.locks ≡ locks_in (map pending_in p.places)
  pub no_clash : NoClash p.locks.rows
  pub no_mark_clash : NoClash p.locks.marks
  pub applies : (i : ℕ) (t : Transaction) → placed p.places i ≡ Some t → Applies p.tables p.rows t.pending
  pub stands : (i : ℕ) (t : Transaction) → placed p.places i ≡ Some t → StandsAs (course_of p) (i + 1) t.pending t.phase
  pub flushed : AreFlushed p.places (p.committed + 1) (drop p.committed p.log) (drop p.committed p.owners)
  pub queued : AreQueued p.places p.stages.flush
  pub distinct : IsDistinct eqb p.stages.flush

-- The sessions that wait for their sync own the unsynced records, and those that wait for their commit the records that are
-- synced and not committed, in log order.
pub record Wait (stages : Queues) (owners : List ℕ) (synced_ committed_ : ℕ) : Type 0 where
  pub syncing : stages.sync ≡ drop synced_ owners
  pub committing : stages.commit ≡ drop committed_ (take synced_ owners)

-- what is true of a source whose tracker is so
pub record Holds (p : Parts) (IsSo : Type 0) : Type 0 where
  pub core : IsCore p
  pub waits : Wait p.stages p.owners p.synced p.committed
  pub tracked : IsSo
  pub kept : MayBeGone p.keeps p.gone p.committed

-- the transaction in another phase
abbrev pub with_phase : Phase → Transaction → Transaction
with_phase phase t = record t { phase = phase }

-- the transaction with one more change, which does so to its row
abbrev pub with_change : Option Transaction → Change → Step → Option Transaction
with_change None change step = None
with_change (Some t) change step = Some (record t { pending = pushed t.pending change step })

-- the order parent of a prepared transaction
abbrev pub prepared_order : Transaction → Option ℕ
prepared_order t = elim t.phase [ Active ↦ None | Prepared order ↦ Some order | Queued _ ↦ None | Flushed _ ↦ None ]

-- the transaction once it is prepared, and what its session is told
abbrev pub ready : Option Transaction → ℕ → Option Transaction × Answer
ready None parent = (None, answers.Empty)
ready (Some t) parent =
    if is_empty_list t.pending.changes then (None, answers.Empty)
    else (Some (with_phase (Prepared parent) t), answers.Parent parent)
