-- What lies under the engine lock, and what is true of it each time that the lock is taken.
use Rattle.std.specs.Prelude.{
  ◌≡◌,
  ◌≢◌,
  ◌⊎◌,
  ℕ,
  ◌+◌,
  ◌-◌,
  ◌<◌,
  ◌≤◌,
  ◌^◌,
  nat_le,
  nat_lt,
  count_by,
  find,
  ◌==◌,
  ◌&&◌,
  ◌||◌,
  not,
  if◌then◌else◌,
  Bool,
  true,
  false,
  List,
  [],
  ◌∷◌,
  ◌++◌,
  length,
  take,
  drop,
  replicate,
  slice_get,
  slice_set,
  slice_index_or,
  Option,
  Some,
  None,
  is_some,
  is_none,
  IfSome,
  IfNone,
  IsSome,
  Result,
  Ok,
  Err,
  OnOk,
  OnErr,
  IsErrOf,
}
use Rattle.std.specs.List.{flat_map, AllByRecursion}
use Rattle.std.specs.Str.{bytes_eq}
use Rattle.commit_stages.specs.Queues.{IsSession}
use Rattle.rows.specs.declared.Change.{Change}
use Rattle.schema.specs.declared.Table.{Table}
use Rattle.store_trait.specs.Batch.{Entry}
use Rattle.record_codec.specs.declared.records.Record.{Record}
use Rattle.record_codec.specs.Group.{GroupValue, AreNumbered}
use Rattle.record_codec.specs.Version.{current}
use Rattle.record_codec.specs.Spelling.{spelling, HasSpelling}
use Rattle.log_file.specs.declared.form.Form.TheVariants.{Three}
use Rattle.log_file.specs.Log.{Log, Kept, Tail, log_of}
use Rattle.log_file.specs.Flushed.{IsFlushedOf}
use Rattle.log_file.specs.declared.fault.LogFault.{LogFault}
use Rattle.log_file.specs.declared.fault.LogFault.TheVariants as logs
use Rattle.source_core.specs.declared.fault.SourceFault.{SourceFault}
use Rattle.source_core.specs.declared.fault.SourceFault.TheVariants.{AlreadyOpen, Halted, Memory, NoSession}
use Rattle.source_core.specs.declared.transaction.Receipt.{Receipt}
use Rattle.source_core.specs.Source.{Source}
use Rattle.source_core.specs.Calls.{session_fault, write_fault, written, queue_fault, queued, cause, receipts_for, receipts, receipt_as, begun, with_synced, all_committed, halted, is_busy, Flushes}
use Rattle.source_shared.specs.declared.engine.Due.{Due}
use Rattle.source_shared.specs.declared.engine.Due.TheVariants.{Ended, Lead, Wait}
use Rattle.source_shared.specs.Book.{old_receipts}
use Rattle.source_shared.specs.Seat.{Seat}

-- those who wait
pub record Watch : Type 0 where
  -- whether each session's thread sleeps until it is due, session 1 first; and how many do
  pub sleeping : List Bool
  pub asleep : ℕ
  -- no more transactions come
  pub closed : Bool
  -- what those were told last who wait for records: how many are synced, and whether no more come
  pub told : ℕ × Bool
  -- whether one may sleep who has its end, and was not called since
  pub stirred : Bool
  -- whether one waits to rotate, and was not called since
  pub rotating : Bool

pub record State : Type 0 where
  pub core : Source
  -- what is synced, and the group that is prepared
  pub kept : Kept
  -- in how many files the log is: those whose devices it keeps, and the last one
  pub files : ℕ
  -- what writes the last of them, unless a thread has it
  pub home : Option Tail
  -- the groups that are flushed and not synced, the oldest first; the one that a thread writes is that
  pub unsynced : List GroupValue
  -- the receipts that were not taken yet, session 1 first
  pub places : List (Option Receipt)
  -- whether each seat was given out, session 1 first
  pub out : List Bool
  -- the receipts of all commits, in log order
  pub history : List Receipt
  -- who waits, and for what
  pub watch : Watch

-- those who wait, of these parts
abbrev pub watch_of : List Bool → ℕ → Bool → ℕ × Bool → Bool → Bool → Watch
watch_of sleeping asleep closed told stirred rotating =
    record { sleeping = sleeping; asleep = asleep; closed = closed; told = told; stirred = stirred; rotating = rotating }

-- a state of these parts
abbrev pub state_of : Source → Kept → ℕ → Option Tail → List GroupValue → List (Option Receipt) → List Bool → List Receipt → Watch → State
state_of core kept files home unsynced places out history watch = record {
  core = core;
  kept = kept;
  files = files;
  home = home;
  unsynced = unsynced;
  places = places;
  out = out;
  history = history;
  watch = watch;
}

-- it waits for no group, and writes behind so many records, in the form that sources write, a file that is not finished
pub record IsReady (synced_ : ℕ) (t : Tail) : Type 0 where
  pub waiting : t.waiting ≡ None
  pub next : t.next ≡ synced_ + 1
  pub form : t.form ≡ Three
  pub goes : t.finished ≡ false

-- the receipt is one of these, at its number
pub record IsKnown (history : List Receipt) (r : Receipt) : Type 0 where
  pub least : 1 ≤ r.gno
  pub there : slice_get history (r.gno - 1) ≡ Some r

-- a receipt that lies in a session's place is one of the session, and of those that the commits gave
abbrev pub ArePlaced : List Receipt → ℕ → List (Option Receipt) → Type 0
ArePlaced history session [] = Unit {0}
ArePlaced history session (place ∷ places) =
    IfSome place (λ r. (r.session ≡ session) × IsKnown history r) × ArePlaced history (session + 1) places

-- a receipt for each committed record, in log order
abbrev pub committed_receipts : Source → List Receipt
committed_receipts s = receipts_for (take s.committed s.owners) (take s.committed s.log)

-- how many of these are so
abbrev pub count : List Bool → ℕ
count flags = count_by (λ flag. flag) flags

pub record IsWatch (w : Watch) : Type 0 where
  pub sessions : length w.sleeping ≡ 256
  pub asleep : w.asleep ≡ count w.sleeping

-- Where the receipts of the committed records lie: all of them in the history, and each that was not taken yet in its session's
-- place too.
pub record AreLaidOut (committed history : List Receipt) (places_ : List (Option Receipt)) (out : List Bool) : Type 0 where
  pub history_is : history ≡ committed
  pub placed : ArePlaced history 1 places_
  -- each session has a place, and a seat
  pub places : length places_ ≡ 256
  pub seats : length out ≡ 256

-- the receipt of the session of a place, counted from 0, is there, or the source is halted
abbrev pub has_end : State → ℕ → Bool
has_end s place = s.core.halted || is_some (slice_index_or s.places place None)

-- nobody sleeps who has its end
abbrev pub NoneSleepsWithEnd : State → Type 0
NoneSleepsWithEnd s = (place : ℕ) → slice_index_or s.watch.sleeping place false ≡ true → has_end s place ≡ false

-- The core keeps of itself that its log is legal over its base, that its rows are those after the committed records, and
-- that no more are committed than synced, and synced than flushed.
pub record IsSettled (base : List Entry) (tables : List Table) (s : State) : Type 0 where
  pub base_is : s.core.base ≡ base
  pub tables_is : s.core.tables ≡ tables
  -- it keeps all records
  pub keeps : s.core.keeps ≡ true
  pub flushed : IsFlushedOf s.core.log s.core.synced s.core.group_sizes s.kept s.unsynced
  -- what writes the last one, where it is here, is behind the synced records
  pub ready : IfSome s.home (λ t. s.core.halted ≡ false → IsReady s.core.synced t)
  -- where it is out a group is prepared, which it writes
  pub out : IfNone s.home (IsSome s.kept.prepared)
  pub receipts : AreLaidOut (committed_receipts s.core) s.history s.places s.out
  pub watch : IsWatch s.watch
  -- unless that is noted nobody sleeps who has its end
  pub calm : s.watch.stirred ≡ false → NoneSleepsWithEnd s

-- the session has no seat yet
abbrev pub seat_fault : State → ℕ → Option SourceFault
seat_fault s session = session_fault s.core session (cause (slice_index_or s.out (session - 1) false) AlreadyOpen None)

-- why a session gets no seat: one was given out only to a session that there is
abbrev pub IsSeatRefusal : ℕ → SourceFault → Type 0
IsSeatRefusal session fault = (fault ≡ Halted) ⊎ (fault ≡ NoSession) ⊎ (IsSession session × (fault ≡ AlreadyOpen))

-- the receipt of the committed record of its gno, which came from its session
pub record IsCommitted (s : Source) (r : Receipt) : Type 0 where
  pub least : 1 ≤ r.gno
  pub greatest : r.gno ≤ s.committed
  pub made : Record
  pub is : slice_get s.log (r.gno - 1) ≡ Some made
  pub owner : slice_get s.owners (r.gno - 1) ≡ Some r.session
  pub receipt : r ≡ receipt_as r.session made

-- ---- what each step leaves

-- the log has just these records, in the form that sources write, and may be written
pub record HoldsAll (log : Log) (records_ : List Record) : Type 0 where
  pub records : log.records ≡ records_
  pub first : records_ ≡ [] → log.head.first ≡ 1
  pub form : log.head.form ≡ Three
  pub waiting : log.waiting ≡ None
  pub running : log.failed ≡ false

-- nobody waits, and they know of so many records who will wait for more
abbrev pub nobody : ℕ → Watch
nobody synced_ = record { sleeping = replicate 256 false; asleep = 0; closed = false; told = (synced_, false); stirred = false; rotating = false }

-- a source over this core and this log, which has so many finished files: its history begins with the receipts of the records that it has
pub record IsNewState (core : Source) (log : Log) (past_ : ℕ) (s : State) : Type 0 where
  pub core_is : s.core ≡ core
  pub files : s.files ≡ past_ + 1
  pub home : IfSome s.home (λ t. log_of s.kept t ≡ log)
  pub here : IsSome s.home
  pub unsynced : s.unsynced ≡ []
  pub places : s.places ≡ replicate 256 None
  pub out : s.out ≡ replicate 256 false
  pub history : s.history ≡ old_receipts core.log
  pub watch : s.watch ≡ nobody (length core.log)

-- the session's seat was given out
abbrev pub seated : State → ℕ → State
seated s session = record s { out = slice_set s.out (session - 1) true }

-- the session begins, and a receipt that it did not take is dropped
abbrev pub begun_by : State → ℕ → State
begun_by s session = record s { core = begun s.core session; places = slice_set s.places (session - 1) None }

-- the core takes the session's change, and nothing else changes
abbrev pub Writes : State → ℕ → Change → State → Type 0
Writes old session change new = (write_fault old.core session change ≡ None) × (new ≡ record old { core = written old.core session change })

-- why a seat's transaction is not queued; one that is queued already is not asked about
abbrev pub enqueue_fault : State → Seat → Option SourceFault
enqueue_fault s seat = if seat.underway then session_fault s.core seat.session None else queue_fault s.core seat.session

abbrev pub enqueued : State → Seat → State
enqueued s seat = if seat.underway then s else record s { core = queued s.core seat.session }

-- What the session of a place finds that waits for its receipt: that, or that the source is halted; else the writer, if that is here.
abbrev pub due_of : State → ℕ → Due
due_of s place =
    if has_end s place then Ended
    else if is_some s.home then Lead
    else Wait

-- a group may be flushed beside the one that a thread writes: something is queued, and no other group waits
abbrev pub may_flush : State → Bool
may_flush s = not s.core.halted && is_none s.home && nat_le (length s.unsynced) 1 && nat_lt 0 (length s.core.queue)

-- ---- who waits

-- the session of a place sleeps from now on, or no more
abbrev pub set_asleep : State → ℕ → Bool → State
set_asleep s place sleeps =
    let flags = slice_set s.watch.sleeping place sleeps in record s { watch = record s.watch { sleeping = flags; asleep = count flags } }

-- Who is called of those who sleep, session 1 first: each whose receipt is there, or all where the source is halted; and, if one of the
-- others is to lead, the first of these.
abbrev pub calls : Bool → Bool → List Bool → List (Option Receipt) → List Bool
calls halted leads [] places = []
calls halted leads (sleeps ∷ sleeping) [] = []
calls halted leads (sleeps ∷ sleeping) (place ∷ places) =
    (sleeps && (halted || is_some place || leads)) ∷ calls halted (leads && (not sleeps || halted || is_some place)) sleeping places

-- where the writer is here, and this says so, one is to lead
abbrev pub called_by : State → Bool → List Bool
called_by s leads = calls s.core.halted (leads && is_some s.home) s.watch.sleeping s.places

abbrev pub NobodyIsCalled : State → Bool → Type 0
NobodyIsCalled s leads = (place : ℕ) → slice_index_or (called_by s leads) place false ≡ false

-- of those who slept, those who were not called sleep on
abbrev pub sleep_on : List Bool → List Bool → List Bool
sleep_on [] called = []
sleep_on (sleeps ∷ sleeping) [] = sleeps ∷ sleeping
sleep_on (sleeps ∷ sleeping) (is_called ∷ called) = (sleeps && not is_called) ∷ sleep_on sleeping called

abbrev pub awoken : State → List Bool → State
awoken s called = let flags = sleep_on s.watch.sleeping called in record s { watch = record s.watch { sleeping = flags; asleep = count flags } }

-- no more transactions come
abbrev pub closed_now : State → State
closed_now s = record s { watch = record s.watch { closed = true } }

-- no more records come
abbrev pub is_over : State → Bool
is_over s = s.watch.closed || s.core.halted

-- the record behind this gno is not synced, and may still come
abbrev pub is_awaited : State → ℕ → Bool
is_awaited s gno = nat_le (length s.kept.records) gno && not (is_over s)

-- what those are to know who wait for records
abbrev pub outlook : State → ℕ × Bool
outlook s = (length s.kept.records, is_over s)

-- they were told of another number of records, or not that no more come
abbrev pub has_news : State → Bool
has_news s = not (s.watch.told.0 == length s.kept.records) || (is_over s && not s.watch.told.1)

-- a flushed transaction is not committed, or a thread writes a group, and the source is not halted
abbrev pub is_at_work : State → Bool
is_at_work s = not s.core.halted && (is_busy s.core || is_none s.home)

-- who waits to rotate is to be called: the source is at rest
abbrev pub calls_rotator : State → Bool
calls_rotator s = s.watch.rotating && not (is_at_work s)

-- one waits to rotate, where the source is at work
abbrev pub with_rotator : State → State
with_rotator s = record s { watch = record s.watch { rotating = s.watch.rotating || is_at_work s } }

-- who waits to rotate was called, where it is to be
abbrev pub with_rest : State → State
with_rest s = record s { watch = record s.watch { rotating = s.watch.rotating && is_at_work s } }

-- nobody sleeps any more who has its end
abbrev pub with_calm : State → State
with_calm s = record s { watch = record s.watch { stirred = false } }

abbrev pub with_told : State → State
with_told s = record s { watch = record s.watch { told = outlook s } }

-- Nobody sleeps who has its end, those who wait for records were told of all, and nobody waits to rotate where the source is at rest: only so
-- the lock is let go of.
pub record IsTold (s : State) : Type 0 where
  pub ended : NoneSleepsWithEnd s
  pub news : has_news s ≡ false
  pub rest : calls_rotator s ≡ false

-- ---- what is read of the log

-- the synced record of this gno
abbrev pub synced_record : State → ℕ → Option Record
synced_record s gno = find (λ r. r.gno == gno) s.kept.records

-- the bytes are followed by those of these records
pub record AreAppended (records : List Record) (old new : List ℕ) : Type 0 where
  pub have : AllByRecursion (HasSpelling current) records
  pub bytes : new ≡ old ++ flat_map (spelling current) records

-- the bytes are followed by those of so many records, whose gnos are this one, the next, and so on
pub record AppendsSome (gno count : ℕ) (old new : List ℕ) : Type 0 where
  pub records : List Record
  pub many : length records ≡ count
  pub numbered : AreNumbered gno records
  pub appended : AreAppended records old new

-- the synced records behind this gno, so many at most
abbrev pub synced_past : State → ℕ → ℕ → List Record
synced_past s gno count = take count (drop gno s.kept.records)

-- the bytes are followed by those of so many synced records, the ones behind this gno
pub record AppendsSynced (s : State) (gno count : ℕ) (old new : List ℕ) : Type 0 where
  pub many : length (synced_past s gno count) ≡ count
  pub numbered : AreNumbered (gno + 1) (synced_past s gno count)
  pub appended : AreAppended (synced_past s gno count) old new

-- the groups from the one on that begins with this gno; none, where none does
abbrev pub groups_from : ℕ → List GroupValue → List GroupValue
groups_from gno [] = []
groups_from gno (group ∷ groups) = if group.first == gno then group ∷ groups else groups_from gno groups

-- ---- what receipts, groups and the writer leave

-- one may sleep now who has its end
abbrev pub stirred_now : State → State
stirred_now s = record s { watch = record s.watch { stirred = true } }

-- the receipt of a place was taken
abbrev pub emptied : State → ℕ → State
emptied s place = record s { places = slice_set s.places place None }

-- the source is halted
abbrev pub failed : State → State
failed s = stirred_now (record s { core = halted s.core })

-- the writer is here
abbrev pub with_home : Tail → State → State
with_home t s = record s { home = Some t }

-- the oldest group, this one, is synced
abbrev pub landed : GroupValue → State → State
landed group s = record s {
  core = with_synced s.core group.last;
  kept = record s.kept { records = take group.last s.core.log; groups = s.kept.groups ++ group ∷ []; prepared = None };
  unsynced = drop 1 s.unsynced;
}

-- a receipt lies in its session's place, and nothing else changed
abbrev pub laid_one : Receipt → List (Option Receipt) → List (Option Receipt)
laid_one r places = if nat_lt 0 r.session then slice_set places (r.session - 1) (Some r) else places

-- one after the other
abbrev pub laid : List Receipt → List (Option Receipt) → List (Option Receipt)
laid [] places = places
laid (r ∷ rs) places = laid rs (laid_one r places)

-- the synced records are committed, and their receipts given
abbrev pub given : State → State
given s = stirred_now (record s { core = all_committed s.core; places = laid (receipts s.core) s.places; history = committed_receipts (all_committed s.core) })

-- what was queued is the last of the groups that wait
pub record FlushesLast (old : State) (group : GroupValue) (new : State) : Type 0 where
  pub flushes : Flushes old.core group new.core
  pub leaves : new ≡ record old { core = new.core; unsynced = old.unsynced ++ group ∷ [] }

-- where nothing was queued, all is as before
abbrev pub IsFlushed : State → State → Type 0
IsFlushed old new = ((old.core.queue ≡ []) × (new ≡ old)) ⊎ ((group : GroupValue) × FlushesLast old group new)

-- what is queued is flushed, unless a group waits
abbrev pub IsGathered : State → State → Type 0
IsGathered old new = ((old.unsynced ≡ []) × IsFlushed old new) ⊎ ((old.unsynced ≢ []) × (new ≡ old))

-- the writer is still here, and the source not halted
pub record IsHome (old new : State) : Type 0 where
  pub home : new.home ≡ old.home
  pub running : new.core.halted ≡ false

-- What is synced is committed, and nothing is to be written for the session of this place: its receipt is there, or nothing is
-- queued and nothing waits.
pub record IsIdle (place : ℕ) (old new : State) : Type 0 where
  pub home : IsHome old new
  pub leaves : new ≡ given old
  pub idle : IsSome (slice_index_or new.places place None) ⊎ ((new.unsynced ≡ []) × (new.core.queue ≡ []))

-- ---- a group that is written outside the lock

-- the writer, and the group that it writes
pub record Trip : Type 0 where
  pub tail : Tail
  pub group : GroupValue

-- the group is the next of a file that is not finished, and of the form that sources write, as what the writer writes is
pub record IsErrand (e : Trip) : Type 0 where
  pub waiting : e.tail.waiting ≡ None
  pub next : e.group.first ≡ e.tail.next
  pub version : e.group.version ≡ current
  pub form : e.tail.form ≡ Three
  pub goes : e.tail.finished ≡ false

-- It was written, and the writer is behind it; or memory lacked, and all is as it was.
pub record IsBack (e : Trip) (done : Result (Unit {0}) LogFault) : Type 0 where
  pub version : e.group.version ≡ current
  pub written : OnOk done ((e.tail.waiting ≡ None) × (e.tail.next ≡ e.group.last + 1) × (e.tail.form ≡ Three) × (e.tail.finished ≡ false))
  pub lacked : IsErrOf done logs.Memory → IsErrand e

-- the writer leaves with the oldest group, which is prepared
pub record Departs (old : State) (e : Trip) (new : State) : Type 0 where
  pub errand : IsErrand e
  pub writer : old.home ≡ Some e.tail
  pub oldest : slice_get old.unsynced 0 ≡ Some e.group
  pub leaves : new ≡ record old { kept = record old.kept { prepared = Some e.group }; home = None }

-- What is synced is committed, and the place has no receipt of that; then, where no group waits, what is queued is flushed; then
-- the writer leaves.
pub record Leads (place : ℕ) (old : State) (e : Trip) (new : State) : Type 0 where
  pub none : slice_index_or (given old).places place None ≡ None
  pub between : State
  pub gathered : IsGathered (given old) between
  pub departs : Departs between e new

-- Memory lacked: for what is committed, or behind that for what is flushed, or for the group that was to leave.
pub record LeadsInVain (old new : State) : Type 0 where
  pub home : IsHome old new
  pub leaves : (new ≡ old) ⊎ (new ≡ given old) ⊎ IsGathered (given old) new

-- why the writer's return is refused: the source is halted; the group is another one than was prepared; or what the log file
-- answered
abbrev pub told : Result (Unit {0}) LogFault → Option SourceFault
told (Ok done) = None
told (Err logs.Memory) = Some Memory
told (Err fault) = Some Halted

-- the numbers and the bytes are the same
abbrev pub is_same : GroupValue → GroupValue → Bool
is_same one other = one.first == other.first && one.last == other.last && bytes_eq one.bytes other.bytes

abbrev pub is_other : Option GroupValue → GroupValue → Bool
is_other None group = true
is_other (Some prepared_) group = not (is_same prepared_ group)

-- the group is the prepared one, and the source is not halted
abbrev pub expects : State → GroupValue → Bool
expects s group = not s.core.halted && not (is_other s.kept.prepared group)

abbrev pub back_fault : State → GroupValue → Result (Unit {0}) LogFault → Option SourceFault
back_fault s group done = cause s.core.halted Halted (cause (is_other s.kept.prepared group) Halted (told done))

-- the prepared group is synced, and its transactions are committed, unless memory lacks for that
pub record Lands (old : State) (t : Tail) (result : Result (Unit {0}) SourceFault) (new : State) : Type 0 where
  pub group : GroupValue
  pub prepared : old.kept.prepared ≡ Some group
  pub committed : OnOk result (new ≡ given (landed group (with_home t old)))
  pub lacked : OnErr result (new ≡ landed group (with_home t old))

-- the writer is here, and the source halted
abbrev pub Fails : State → Tail → Result (Unit {0}) SourceFault → State → Type 0
Fails old t result new = (result ≡ Err Halted) × (new ≡ failed (with_home t old))

-- ---- a next file

-- The writer goes on in a next file, which is one more: the finished one's device is kept. Nothing else changed. (Past 2 to the power 64
-- they are not counted.)
pub record IsRotated (old : State) (n : ℕ) (new : State) : Type 0 where
  pub tail : Tail
  pub ready : IsReady old.core.synced tail
  pub leaves : new ≡ record old { home = Some tail; files = old.files + 1 }
  pub number : old.files + 1 < 2 ^ 64 → n ≡ old.files + 1
  pub least : 2 ≤ n

-- The source was halted, and all is as it was; or a device failed, and the source is halted.
abbrev pub IsNotRotated : State → State → Type 0
IsNotRotated old new = ((old.core.halted ≡ true) × (new ≡ old)) ⊎ ((old.core.halted ≡ false) × (tail : Tail) × (new ≡ failed (with_home tail old)))

-- why a transaction does not come to its end; it stays where it is then, or the source is halted
abbrev pub IsOnTheWay : SourceFault → Type 0
IsOnTheWay fault = (fault ≡ Memory) ⊎ (fault ≡ Halted)
