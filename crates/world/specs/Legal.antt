-- Legal replies: each reply is one that the state before it and one legal log allow.
use Rattle.std.specs.Prelude.{◌≡◌, ℕ, ◌+◌, ◌-◌, Bool, true, false, not, ◌&&◌, ◌||◌, ◌==◌, nat_le, nat_lt, if◌then◌else◌, List, [], ◌∷◌, length, map, take, drop, slice_get, Option, Some, None, Ok}
use Rattle.std.specs.Prelude.{option_and_then, ◌⊎◌}
use Rattle.std.specs.List.{flat_map, AllByRecursion}
use Rattle.std.specs.Option.{option_map_or, is_none}
use Rattle.std.specs.FinMap.{get}
use Rattle.schema.specs.declared.Table.{Table}
use Rattle.schema.specs.declared.RowId.{RowId}
use Rattle.gtid_set.specs.Ids.{Ids, IsSet, first_ids}
use Rattle.gtid_set.specs.Numbers.{has_number}
use Rattle.rows.specs.Database.{Database}
use Rattle.store_trait.specs.Batch.{Entry}
use Rattle.record_codec.specs.declared.records.Record.{Record}
use Rattle.record_codec.specs.declared.fault.CodecFault.TheVariants as codec
use Rattle.record_codec.specs.Log.{after, IsLegalLog}
use Rattle.record_codec.specs.Group.{GroupValue}
use Rattle.record_codec.specs.Version.{current}
use Rattle.record_codec.specs.Spelling.{spelling, HasSpelling}
use Rattle.source_core.specs.declared.fault.SourceFault.{SourceFault}
use Rattle.source_core.specs.declared.fault.SourceFault.TheVariants as source
use Rattle.log_file.specs.declared.fault.LogFault.TheVariants as log_file
use Rattle.log_set.specs.Set.{texts_of}
use Rattle.source_core.specs.Source.{Source, seen_row}
use Rattle.source_core.specs.Calls.{begin_fault, write_fault, read_fault, prepare_fault, prepare_answer, queue_fault, abort_fault, halted_fault, AreNextRecords, seen_log}
use Rattle.tracker_trait.specs.Kind.{Kind}
use Rattle.scheduler.specs.Gnos.{has_gno, low_of}
use Rattle.gapped.specs.Gapped.{gapped}
use Rattle.relay.specs.declared.ReplicaFault.TheVariants as replica
use Rattle.replica_core.specs.Replica.{Replica}
use Rattle.world.specs.declared.events.Event.{Event}
use Rattle.world.specs.declared.events.Event.TheVariants as events
use Rattle.world.specs.declared.events.Reply.{Reply}
use Rattle.world.specs.Pair.{Pair, new_pair, next, busy, transactions, replica_committed, low_water, published_gnos}
use Rattle.world.specs.declared.events.Reply.TheVariants as replies
use Rattle.world.specs.Replies.{prepared_reply}
use Rattle.store_trait.specs.Operation.{loaded}

-- what a run begins with: the source's identifier, the schema, the rows that both sides hold, the greatest number of
-- records, how the source finds parents, the number of workers, and whether the replica commits in the order of the log
pub record Setup : Type 0 where
  pub identifier : List ℕ
  pub tables : List Table
  pub base : List Entry
  pub limit : ℕ
  pub kind : Kind
  pub workers : ℕ
  pub preserve : Bool

-- the source's database after the first n records of the log
abbrev pub rows_after : Setup → List Record → ℕ → Option Database
rows_after setup log n = after setup.tables (loaded setup.base) (take n log)

-- how many records lie from one number to another
abbrev pub size_between : ℕ × ℕ → ℕ
size_between ends = ends.1 + 1 - ends.0

-- the source, as the state and the log say that it is
abbrev pub source_at : Setup → List Record → Pair → Source
source_at setup log pair = record {
  tables = setup.tables;
  base = setup.base;
  limit = setup.limit;
  kind = setup.kind;
  log = take pair.flushed log;
  synced = pair.synced;
  committed = pair.source_committed;
  owners = pair.owners;
  sessions = transactions pair.transaction;
  queue = pair.queue;
  group_sizes = map size_between pair.unsynced;
  halted = pair.halted;
  keeps = false;
}

-- the replica
abbrev pub replica_at : Setup → List Record → Pair → Replica
replica_at setup log pair = record {
  tables = setup.tables;
  source = setup.identifier;
  base = setup.base;
  accepted = take pair.accepted log;
  preserve = setup.preserve;
  commits = pair.commits;
  published = pair.published;
  dispatched = pair.dispatched;
  out = pair.out;
  finished = pair.finished;
  workers = setup.workers;
  stopped = None;
  keeps = false;
}

-- the source's first cause of refusal, and else this reply
abbrev pub refused_or : Option SourceFault → Reply → Reply
refused_or None reply = reply
refused_or (Some fault) reply = replies.Source fault

abbrev pub stamp_of : Record → ℕ × ℕ
stamp_of of = (of.sequence, of.parent)

-- the records that the next flush logs: one for each queued transaction
abbrev pub next_records : List Record → Pair → List Record
next_records log pair = take (length pair.queue) (drop pair.flushed log)

-- A halted source refuses. Else `nothing` exactly where none is queued; else the queued transactions are the next
-- records, in the order of the queue: each has its transaction's changes, in order, and the parent that the mode gives
-- it behind the records before it.
abbrev pub FlushAnswers : Setup → List Record → Pair → Bool → List ℕ → Reply → Type 0
FlushAnswers setup log pair true sessions reply = reply ≡ replies.Source source.Halted
FlushAnswers setup log pair false [] reply = reply ≡ replies.Nothing
FlushAnswers setup log pair false (first ∷ rest) reply =
    (reply ≡ replies.Flushed (pair.flushed + 1) (map stamp_of (next_records log pair)))
    × AreNextRecords (source_at setup log pair) (seen_log (source_at setup log pair)) (first ∷ rest) (next_records log pair)

-- A halted source refuses. Else `nothing` exactly where no group is flushed and not synced; else the oldest of these is
-- on the log, or the log's device failed, and the source is halted from then on.
abbrev pub SyncAnswers : Bool → List (ℕ × ℕ) → Reply → Type 0
SyncAnswers true groups reply = reply ≡ replies.Source source.Halted
SyncAnswers false [] reply = reply ≡ replies.Nothing
SyncAnswers false (group ∷ groups) reply = (reply ≡ replies.Synced group.0 group.1) ⊎ (reply ≡ replies.Log log_file.Device)

-- A halted source refuses, and one of which a flushed transaction is not committed does. Else there is no device for one file more; or
-- the log goes on in a next file, which has the next number; or a device of the log failed, and the source is halted from then on.
abbrev pub RotateAnswers : Bool → Bool → Bool → ℕ → Reply → Type 0
RotateAnswers true busies full files reply = reply ≡ replies.Source source.Halted
RotateAnswers false true full files reply = reply ≡ replies.Busy
RotateAnswers false false true files reply = reply ≡ replies.NoDevice
RotateAnswers false false false files reply = (reply ≡ replies.Rotated (files + 1)) ⊎ (reply ≡ replies.Log log_file.Device)

-- whether each of the 16 devices has a file
abbrev pub is_full : Pair → Bool
is_full pair = nat_le 16 (length pair.firsts)

-- all that is synced and not committed
abbrev pub commit_reply : Pair → Reply
commit_reply pair = if pair.source_committed == pair.synced then replies.Nothing else replies.Committed (pair.source_committed + 1) pair.synced

-- the group of the records from one number to another, by their spellings in the form that sources write
abbrev pub group_between : List Record → ℕ × ℕ → GroupValue
group_between log ends = record {
  version = current;
  first = ends.0;
  last = ends.1;
  bytes = flat_map (spelling current) (drop (ends.0 - 1) (take ends.1 log));
}

-- the files of the log as their devices are to have them: of each its header, its synced groups, and the last gate
abbrev pub log_text : Setup → List Record → Pair → List (List ℕ)
log_text setup log pair = texts_of setup.identifier pair.firsts pair.starts (map (group_between log) pair.synced_groups)

-- Only synced records are delivered. The next one is accepted, one that was accepted before is skipped, and each other
-- refused as a gap.
abbrev pub deliver_reply : Pair → ℕ → Reply
deliver_reply pair gno =
    if not (nat_le 1 gno && nat_le gno pair.synced) then replies.Unsynced
    else if nat_le gno pair.accepted then replies.Skipped
    else if gno == pair.accepted + 1 then replies.Accepted
    else replies.Replica replica.Gap

-- The next record is accepted, its parent is at most this number, and a worker is free: fewer records are dispatched and not
-- committed than there are workers.
abbrev pub is_due : Setup → List Record → Pair → ℕ → Bool
is_due setup log pair mark =
    nat_lt pair.dispatched pair.accepted
    && option_map_or (λ next. nat_le next.parent mark) (slice_get log pair.dispatched) false
    && nat_lt (pair.dispatched - replica_committed pair) setup.workers

-- In the order of the log the next record may be dispatched once its parent is committed at the replica. In any order once all up to its
-- parent are, and only so far ahead of the low-water mark.
abbrev pub may_dispatch : Setup → List Record → Pair → Bool
may_dispatch setup log pair =
    if setup.preserve then is_due setup log pair (replica_committed pair)
    else is_due setup log pair (low_water pair) && nat_le (pair.dispatched + 1) (low_water pair + 4096)

abbrev pub dispatch_reply : Setup → List Record → Pair → Reply
dispatch_reply setup log pair = if may_dispatch setup log pair then replies.Job (pair.dispatched + 1) else replies.Nothing

-- whether the job of this number was handed out and is not finished
abbrev pub is_out : Pair → ℕ → Bool
is_out pair gno = has_gno pair.out gno

-- each such job is finished, since the changes of a legal log apply
abbrev pub finish_reply : Pair → ℕ → Reply
finish_reply pair gno = if is_out pair gno then replies.Finished gno else replies.Nothing

-- in the order of the log the next record is committed once its job is finished; in any order the record whose job was finished first
abbrev pub next_reply : Setup → Pair → Reply
next_reply setup pair =
    if setup.preserve then (let next = replica_committed pair + 1 in if has_gno pair.finished next then replies.Commit next else replies.Nothing)
    else option_map_or replies.Commit (slice_get pair.finished 0) replies.Nothing

abbrev pub is_commit : Reply → Bool
is_commit reply = elim reply [ replies.Commit gno ↦ true | _ ↦ false ]

-- a set of the ids of these records, of the source of this identifier; the empty set where there are none
pub record AreIdsOf (identifier : List ℕ) (gnos : List ℕ) (ids : Ids) : Type 0 where
  pub is_set : IsSet ids
  pub source : ids.source ≡ (if length gnos == 0 then None else Some identifier)
  pub numbers : (n : ℕ) → has_number ids.numbers n ≡ has_gno gnos n

-- the ids of all that is committed: in the order of the log those from 1 to their number
abbrev pub ExecutedAnswers : Bool → Setup → Pair → Reply → Type 0
ExecutedAnswers true setup pair reply = reply ≡ replies.Executed (first_ids setup.identifier (replica_committed pair))
ExecutedAnswers false setup pair reply = (ids : Ids) × (reply ≡ replies.Executed ids) × AreIdsOf setup.identifier pair.commits ids

-- A read shows the row as the published commits leave it. In the order of the log these are the first records of the log. In any order
-- it tells up to which record all are among them, how many others are, and the row that they leave in log order.
abbrev pub read_reply : Setup → List Record → Pair → RowId → Reply
read_reply setup log pair id =
    if setup.preserve then replies.Read pair.published 0 (option_and_then (λ db. get db id) (rows_after setup log pair.published))
    else (let gnos = published_gnos pair in
    let rows = gapped setup.tables (loaded setup.base) log gnos in
    replies.Read (low_of gnos) (pair.published - low_of gnos) (option_and_then (λ db. get db id) rows))

-- The reply that an event has in this state; no other is legal. Only a sync that has a group to write, and a rotation that has a
-- device, may have one of two.
abbrev pub Answers : Setup → List Record → Pair → Event → Reply → Type 0
Answers setup log pair (events.Begin session) reply =
    reply ≡ refused_or (begin_fault (source_at setup log pair) session) replies.Done
Answers setup log pair (events.Write session change) reply =
    reply ≡ refused_or (write_fault (source_at setup log pair) session change) replies.Done
Answers setup log pair (events.See session id) reply =
    reply ≡ refused_or (read_fault (source_at setup log pair) session id) (replies.Seen (seen_row (source_at setup log pair) session id))
Answers setup log pair (events.Prepare session) reply =
    reply ≡ refused_or (prepare_fault (source_at setup log pair) session) (prepared_reply (Ok (prepare_answer (source_at setup log pair) session)))
Answers setup log pair (events.Queue session) reply =
    reply ≡ refused_or (queue_fault (source_at setup log pair) session) replies.Done
Answers setup log pair (events.Abort session) reply =
    reply ≡ refused_or (abort_fault (source_at setup log pair) session) replies.Done
Answers setup log pair events.Flush reply = FlushAnswers setup log pair pair.halted pair.queue reply
Answers setup log pair events.Sync reply = SyncAnswers pair.halted pair.unsynced reply
Answers setup log pair events.Commit reply = reply ≡ refused_or (halted_fault (source_at setup log pair)) (commit_reply pair)
Answers setup log pair (events.Deliver gno) reply = reply ≡ deliver_reply pair gno
Answers setup log pair events.Dispatch reply = reply ≡ dispatch_reply setup log pair
Answers setup log pair (events.Finish gno) reply = reply ≡ finish_reply pair gno
Answers setup log pair events.Next reply = reply ≡ next_reply setup pair
Answers setup log pair events.Publish reply = reply ≡ replies.Published (replica_committed pair)
Answers setup log pair events.Executed reply = ExecutedAnswers setup.preserve setup pair reply
Answers setup log pair (events.Read id) reply = reply ≡ read_reply setup log pair id
Answers setup log pair events.Rotate reply = RotateAnswers pair.halted (busy pair) (is_full pair) (length pair.firsts) reply
Answers setup log pair events.Log reply = reply ≡ replies.Text (log_text setup log pair)

abbrev pub is_source_memory : Reply → Bool
is_source_memory reply = elim reply [ replies.Source fault ↦ (elim fault [ source.Memory ↦ true | _ ↦ false ]) | _ ↦ false ]

abbrev pub is_replica_memory : Reply → Bool
is_replica_memory reply = elim reply [ replies.Replica fault ↦ (elim fault [ replica.Memory ↦ true | _ ↦ false ]) | _ ↦ false ]

abbrev pub is_codec_memory : Reply → Bool
is_codec_memory reply = elim reply [ replies.Codec fault ↦ (elim fault [ codec.Memory ↦ true | _ ↦ false ]) | _ ↦ false ]

abbrev pub is_log_memory : Reply → Bool
is_log_memory reply = elim reply [ replies.Log fault ↦ (elim fault [ log_file.Memory ↦ true | _ ↦ false ]) | _ ↦ false ]

-- Whether the answer that is due asks for memory: that a change is written, that a group is flushed, is on the log, or is committed,
-- a synced record, a job that is handed out, finished or committed, what is published, the ids of what is committed, that
-- the log goes on in a next file, or the log's text. No refusal does, nor that there was nothing to do.
abbrev pub asks_memory : Setup → List Record → Pair → Event → Bool
asks_memory setup log pair event = elim event [
  | events.Write session change ↦ is_none (write_fault (source_at setup log pair) session change)
  | events.Flush ↦ not pair.halted && nat_lt 0 (length pair.queue)
  | events.Sync ↦ not pair.halted && nat_lt 0 (length pair.unsynced)
  | events.Commit ↦ not pair.halted && not (pair.source_committed == pair.synced)
  | events.Deliver gno ↦ nat_le 1 gno && nat_le gno pair.synced
  | events.Dispatch ↦ may_dispatch setup log pair
  | events.Finish gno ↦ is_out pair gno
  | events.Next ↦ is_commit (next_reply setup pair)
  | events.Publish ↦ nat_lt pair.published (replica_committed pair)
  | events.Executed ↦ nat_lt 0 (replica_committed pair)
  | events.Rotate ↦ not pair.halted && (not (busy pair) && not (is_full pair))
  | events.Log ↦ true
  | _ ↦ false
]

-- whether the reply tells, of this event, that memory ran out
abbrev pub tells_memory : Event → Reply → Bool
tells_memory event reply = elim event [
  | events.Write session change ↦ is_source_memory reply
  | events.Flush ↦ is_source_memory reply
  | events.Sync ↦ is_log_memory reply
  | events.Commit ↦ is_source_memory reply
  | events.Deliver gno ↦ is_replica_memory reply || is_codec_memory reply
  | events.Dispatch ↦ is_replica_memory reply
  | events.Finish gno ↦ is_replica_memory reply
  | events.Next ↦ is_replica_memory reply
  | events.Publish ↦ is_replica_memory reply
  | events.Executed ↦ is_replica_memory reply
  | events.Rotate ↦ is_log_memory reply
  | events.Log ↦ is_log_memory reply
  | _ ↦ false
]

-- Whether an event may be answered so for want of memory. It changes nothing then.
abbrev pub lacks_memory : Setup → List Record → Pair → Event → Reply → Bool
lacks_memory setup log pair event reply = asks_memory setup log pair event && tells_memory event reply

-- a reply that the state allows
abbrev pub Allowed : Setup → List Record → Pair → Event → Reply → Type 0
Allowed setup log pair event reply = (lacks_memory setup log pair event reply ≡ true) ⊎ Answers setup log pair event reply

-- each reply is allowed in the state before it, which it leads on to the next
abbrev pub AreAllowed : Setup → List Record → Pair → List Event → List Reply → Type 0
AreAllowed setup log pair [] [] = Unit {0}
AreAllowed setup log pair (event ∷ events_) (reply ∷ replies_) =
    Allowed setup log pair event reply × AreAllowed setup log (next pair event reply) events_ replies_
AreAllowed setup log pair [] (reply ∷ replies_) = ⊥
AreAllowed setup log pair (event ∷ events_) [] = ⊥

-- The replies of a whole run, over one legal log. Each record of it has a spelling: so its refs and its marks rise, and the
-- log's text is one.
pub record AreLegal (setup : Setup) (log : List Record) (events_ : List Event) (replies_ : List Reply) : Type 0 where
  pub legal : IsLegalLog setup.tables (loaded setup.base) log
  pub spelled : AllByRecursion (HasSpelling current) log
  pub allowed : AreAllowed setup log new_pair events_ replies_
