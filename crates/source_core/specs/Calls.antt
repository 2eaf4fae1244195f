-- What each call of a source answers: its first cause of refusal, in order, and what it leaves.
use Rattle.std.specs.Prelude.{◌≡◌, ℕ, ◌+◌, ◌-◌, Bool, true, false, not, ◌&&◌, ◌==◌, nat_le, nat_lt, if◌then◌else◌, List, [], ◌∷◌, ◌++◌, length, map, take, drop, slice_get, slice_set}
use Rattle.std.specs.Prelude.{Option, Some, None, is_some, is_none}
use Rattle.std.specs.Option.{option_map, option_map_or}
use Rattle.schema.specs.declared.Table.{Table}
use Rattle.schema.specs.declared.RowId.{RowId}
use Rattle.schema.specs.Schema.{table_at}
use Rattle.rows.specs.declared.Change.{Change}
use Rattle.rows.specs.Database.{target, writes}
use Rattle.rows.specs.Shape.{has_columns}
use Rattle.record_codec.specs.declared.records.Record.{Record}
use Rattle.record_codec.specs.Group as codec
use Rattle.record_codec.specs.Group.{GroupValue}
use Rattle.record_codec.specs.Version.{current}
use Rattle.source_core.specs.declared.transaction.Phase.{Phase}
use Rattle.source_core.specs.declared.transaction.Phase.TheVariants.{Active, Prepared, Queued, Flushed}
use Rattle.source_core.specs.declared.fault.SourceFault.{SourceFault}
use Rattle.source_core.specs.declared.fault.SourceFault.TheVariants.{NoSession, AlreadyOpen, NotActive, NoTable, WrongColumns, RowLocked, TooManyChanges, Halted, NotPrepared, Exhausted}
use Rattle.source_core.specs.declared.transaction.Prepared.{Prepared as Answer}
use Rattle.source_core.specs.declared.transaction.Prepared.TheVariants as answers
use Rattle.source_core.specs.declared.transaction.Receipt.{Receipt}
use Rattle.log_index.specs.declared.Entry.{Entry as Seen}
use Rattle.log_index.specs.Footprint.{footprint_of}
use Rattle.row_locks.specs.declared.Mode.TheVariants.{Share, Exclusive}
use Rattle.commit_stages.specs.Queues.{sizes_of}
use Rattle.tracker_trait.specs.Parent.{dependency_of}
use Rattle.source_core.specs.Source.{Source, Open, is_session, open_of, changes_of, session_rows, is_locked, is_mark_locked, entry_of, entries_of}
pub use Rattle.source_core.specs.Steps.{cause}
use Rattle.source_core.specs.Steps.{rows_fault}

-- the causes that come before all others of a session's call
abbrev pub session_fault : Source → ℕ → Option SourceFault → Option SourceFault
session_fault s session later = cause s.halted Halted (cause (not (is_session s session)) NoSession later)

-- the same source, with this as the session's transaction
abbrev pub with_open : Source → ℕ → Option Open → Source
with_open s session open_ = record s { sessions = slice_set s.sessions (session - 1) open_ }

abbrev pub is_active : Option Open → Bool
is_active None = false
is_active (Some t) = elim t.phase [ Active ↦ true | Prepared _ ↦ false | Queued _ ↦ false | Flushed _ ↦ false ]

abbrev pub is_prepared : Option Open → Bool
is_prepared None = false
is_prepared (Some t) = elim t.phase [ Active ↦ false | Prepared _ ↦ true | Queued _ ↦ false | Flushed _ ↦ false ]

-- begin

abbrev pub begin_fault : Source → ℕ → Option SourceFault
begin_fault s session = session_fault s session (cause (is_some (open_of s session)) AlreadyOpen None)

abbrev pub begun : Source → ℕ → Source
begun s session = with_open s session (Some (record { changes = []; phase = Active }))

-- write

-- a change that the schema does not allow, whatever the rows
abbrev pub shape_fault : List Table → Change → Option SourceFault → Option SourceFault
shape_fault ts change later =
    option_map_or (λ table. cause (not (has_columns table change)) WrongColumns later) (table_at ts (target change).table) (Some NoTable)

-- the causes that come before those that the rows have
abbrev pub change_fault : Source → ℕ → Change → Option SourceFault → Option SourceFault
change_fault s session change later =
    session_fault s session (cause (not (is_active (open_of s session))) NotActive
    (shape_fault s.tables change (cause (nat_le 1024 (length (changes_of s session))) TooManyChanges later)))

-- A row that another session holds is refused before the rows are looked at; then the rows are those that the session
-- sees: the committed ones with its own changes. The marks of the change come last.
abbrev pub write_fault : Source → ℕ → Change → Option SourceFault
write_fault s session change =
    change_fault s session change (cause (is_locked s session (target change) Exclusive) RowLocked
    (option_map_or (λ db. rows_fault s.tables db (λ row. is_locked s session row Share) (is_mark_locked s session) change) (session_rows s session) None))

abbrev pub written : Source → ℕ → Change → Source
written s session change = with_open s session (Some (record { changes = changes_of s session ++ change ∷ []; phase = Active }))

-- read

abbrev pub read_fault : Source → ℕ → RowId → Option SourceFault
read_fault s session id = session_fault s session (cause (is_none (table_at s.tables id.table)) NoTable None)

-- prepare: the parent is the number of transactions committed now. An empty transaction ends

abbrev pub prepare_fault : Source → ℕ → Option SourceFault
prepare_fault s session = session_fault s session (cause (not (is_active (open_of s session))) NotActive None)

abbrev pub is_empty_list : List Change → Bool
is_empty_list [] = true
is_empty_list (x ∷ xs) = false

abbrev pub prepare_answer : Source → ℕ → Answer
prepare_answer s session = if is_empty_list (changes_of s session) then answers.Empty else answers.Parent s.committed

abbrev pub prepared : Source → ℕ → Source
prepared s session =
    with_open s session (if is_empty_list (changes_of s session) then None else Some (record { changes = changes_of s session; phase = Prepared s.committed }))

-- queue

abbrev pub queue_fault : Source → ℕ → Option SourceFault
queue_fault s session =
    session_fault s session (cause (not (is_prepared (open_of s session))) NotPrepared
    (cause (nat_le s.limit (length s.log + length s.queue)) Exhausted None))

-- the transaction goes from prepared to queued, with its parent
abbrev pub queued_phase : Phase → Phase
queued_phase Active = Active
queued_phase (Prepared parent) = Queued parent
queued_phase (Queued parent) = Queued parent
queued_phase (Flushed gno) = Flushed gno

abbrev pub queued : Source → ℕ → Source
queued s session =
    let next = with_open s session (option_map (λ t. record { changes = t.changes; phase = queued_phase t.phase }) (open_of s session)) in
    record next { queue = s.queue ++ session ∷ [] }

-- abort

abbrev pub abort_fault : Source → ℕ → Option SourceFault
abort_fault s session =
    session_fault s session (cause (not (is_active (open_of s session)) && not (is_prepared (open_of s session))) NotActive None)

abbrev pub aborted : Source → ℕ → Source
aborted s session = with_open s session None

-- the calls that no session makes are refused where the source is halted
abbrev pub halted_fault : Source → Option SourceFault
halted_fault s = cause s.halted Halted None

-- flush: the queued transactions, in the order of the queue, are the next records

abbrev pub place_in : List ℕ → ℕ → Option ℕ
place_in [] session = None
place_in (first ∷ rest) session = if first == session then Some 0 else option_map (λ place. place + 1) (place_in rest session)

-- what a function makes of each session's transaction, given the session's number
abbrev pub each_session : (ℕ → Option Open → Option Open) → ℕ → List (Option Open) → List (Option Open)
each_session f session [] = []
each_session f session (t ∷ ts) = f session t ∷ each_session f (session + 1) ts

-- a session's transaction where this queue is flushed, and the first of it gets this number
abbrev pub flushed_open : ℕ → List ℕ → ℕ → Option Open → Option Open
flushed_open first queue session t =
    option_map_or (λ place. option_map (λ open_. record { changes = open_.changes; phase = Flushed (first + place) }) t) (place_in queue session) t

abbrev pub flushed : Source → List Record → Source
flushed s records =
    record s {
      log = s.log ++ records;
      owners = s.owners ++ s.queue;
      queue = [];
      group_sizes = s.group_sizes ++ sizes_of s.queue;
      sessions =
          each_session (flushed_open (length s.log + 1) s.queue) 1 s.sessions;
    }

abbrev pub parent_of_phase : Phase → ℕ
parent_of_phase Active = 0
parent_of_phase (Prepared parent) = parent
parent_of_phase (Queued parent) = parent
parent_of_phase (Flushed gno) = 0

-- The next record behind this log of a queued transaction: its changes, and the parent that the tracker's mode gives it.
-- Its order parent is the one fixed when it was prepared.
pub record IsNextRecord (s : Source) (before : List Seen) (session : ℕ) (made : Record) : Type 0 where
  pub t : Open
  pub is : open_of s session ≡ Some t
  pub gno : made.gno ≡ length before + 1
  pub sequence : made.sequence ≡ length before + 1
  pub changes : made.changes ≡ t.changes
  pub parent : made.parent ≡ dependency_of s.kind s.tables before (footprint_of s.tables (writes made.changes) made.refs made.marks) session (parent_of_phase t.phase)

-- one record for each of these sessions, in their order, the first behind this log and each of the others behind the one
-- before it
abbrev pub AreNextRecords : Source → List Seen → List ℕ → List Record → Type 0
AreNextRecords s before [] [] = Unit {0}
AreNextRecords s before (session ∷ sessions) (made ∷ more) =
    IsNextRecord s before session made × AreNextRecords s (before ++ entry_of s.tables made session ∷ []) sessions more
AreNextRecords s before [] (made ∷ more) = ⊥
AreNextRecords s before (session ∷ sessions) [] = ⊥

-- the log as a tracker sees it
abbrev pub seen_log : Source → List Seen
seen_log s = entries_of s.tables s.log s.owners

-- a flush: the queued transactions are the records of the group, in the form that sources write
pub record Flushes (old : Source) (group : GroupValue) (new : Source) : Type 0 where
  pub records : List Record
  pub are : AreNextRecords old (seen_log old) old.queue records
  pub leaves : new ≡ flushed old records
  pub version : group.version ≡ current
  pub group_of : codec.AreRecordsOf group records

-- synced

-- The group is the oldest unsynced one, as it was flushed: its records are those of the log from behind the synced
-- ones to its last, and these are as many as were flushed together.
pub record IsOldest (s : Source) (group : GroupValue) : Type 0 where
  pub are : codec.AreRecordsOf group (drop s.synced (take group.last s.log))
  pub whole : slice_get s.group_sizes 0 ≡ Some (group.last - s.synced)

-- a flushed transaction is not committed
abbrev pub is_busy : Source → Bool
is_busy s = nat_lt s.committed (length s.log)

-- the oldest group, which ends with the record of this gno, is synced
abbrev pub with_synced : Source → ℕ → Source
with_synced s last = record s { synced = last; group_sizes = drop 1 s.group_sizes }

-- commit: the transactions up to the last synced one end

abbrev pub is_flushed_by : ℕ → Option Open → Bool
is_flushed_by last None = false
is_flushed_by last (Some t) = elim t.phase [ Active ↦ false | Prepared _ ↦ false | Queued _ ↦ false | Flushed gno ↦ nat_le gno last ]

abbrev pub all_committed : Source → Source
all_committed s =
    record s { committed = s.synced; sessions = map (λ t. if is_flushed_by s.synced t then None else t) s.sessions }

abbrev pub receipt_as : ℕ → Record → Receipt
receipt_as session made = record {
  session = session;
  gno = made.gno;
  sequence = made.sequence;
  parent = made.parent;
  changes = made.changes;
}

abbrev pub receipts_for : List ℕ → List Record → List Receipt
receipts_for [] log = []
receipts_for (owner ∷ owners) [] = []
receipts_for (owner ∷ owners) (made ∷ log) = receipt_as owner made ∷ receipts_for owners log

-- the numbers of the first and the last record that is synced and not committed, where there is one
abbrev pub ends_committed : Source → Option (ℕ × ℕ)
ends_committed s = if s.committed == s.synced then None else Some (s.committed + 1, s.synced)

-- a receipt for each record that is synced and not committed, in log order
abbrev pub receipts : Source → List Receipt
receipts s = receipts_for (drop s.committed (take s.synced s.owners)) (drop s.committed (take s.synced s.log))

-- log_failed

abbrev pub halted : Source → Source
halted s = record s { halted = true }

-- let_go: from now on committed records may go

abbrev pub letting_go : Source → Source
letting_go s = record s { keeps = false }
