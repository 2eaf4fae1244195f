-- What an operator may rely on in each run with legal replies. A place is the index of an event and of its reply, from
-- 0 on; a moment n is when the first n events are answered.
use mathlib.Core.List.{IsPrefix}
use Rattle.std.specs.Prelude.{◌≡◌, ℕ, ℤ, ◌+◌, ◌<◌, ◌≤◌, Bool, true, false, ◌||◌, List, length, map, take, slice_get, count_by, Option, Some}
use Rattle.std.specs.Prelude.{option_and_then, ◌⊎◌}
use Rattle.std.specs.List.{list_any}
use Rattle.std.specs.FinMap.{get}
use Rattle.schema.specs.declared.RowId.{RowId}
use Rattle.store_trait.specs.declared.Op.{Op}
use Rattle.store_trait.specs.Operation.{left_by, loaded}
use Rattle.record_codec.specs.declared.records.Record.{Record}
use Rattle.record_codec.specs.Log.{after}
use Rattle.log_file.specs.declared.fault.LogFault.TheVariants as log_file
use Rattle.source_core.specs.declared.fault.SourceFault.TheVariants as source
use Rattle.source_core.specs.Source.{Source, IsSound}
use Rattle.relay.specs.declared.ReplicaFault.{ReplicaFault}
use Rattle.relay.specs.declared.ReplicaFault.TheVariants as replica
use Rattle.scheduler.specs.Gnos.{has_gno, low_of, AreDistinct}
use Rattle.gapped.specs.Gapped.{gapped, IsClosed}
use Rattle.replica_core.specs.Replica.{Replica, rows_at, operations_in_order}
use Rattle.published.specs.History.{IsHistory, commits_in}
use Rattle.world.specs.declared.events.Event.{Event}
use Rattle.world.specs.declared.events.Event.TheVariants as events
use Rattle.world.specs.declared.events.Reply.{Reply}
use Rattle.world.specs.declared.events.Reply.TheVariants as replies
use Rattle.world.specs.Pair.{Pair, new_pair, pair_after, pair_at, replica_committed, is_failure}
use Rattle.world.specs.Legal.{Setup, rows_after, is_commit, is_source_memory, is_replica_memory, is_codec_memory, is_log_memory, AreLegal}

-- In the order of the log each read at the replica shows the row as it is at the source after the first so many records of the log, and
-- says how many.
abbrev pub ReadsArePrefixes : Type 0
ReadsArePrefixes = (setup : Setup) (log : List Record) (events_ : List Event) (replies_ : List Reply) → AreLegal setup log events_ replies_ →
    setup.preserve ≡ true →
    (place : ℕ) (id : RowId) (upto more : ℕ) (row : Option (List ℤ)) →
    slice_get events_ place ≡ Some (events.Read id) → slice_get replies_ place ≡ Some (replies.Read upto more row) →
    row ≡ option_and_then (λ db. get db id) (rows_after setup log upto)

-- A read of this row, in whatever order: some commits are all from 1 to the one number and so many others, with each of them each earlier
-- record is among them that conflicts with it, and the row is as they leave it, in log order.
pub record ShowsClosed (setup : Setup) (log : List Record) (id : RowId) (upto more : ℕ) (row : Option (List ℤ)) : Type 0 where
  pub gnos : List ℕ
  pub once : AreDistinct gnos
  pub within : (gno : ℕ) → has_gno gnos gno ≡ true → (1 ≤ gno) × (gno ≤ length log)
  pub closed : IsClosed gnos log
  pub mark : upto ≡ low_of gnos
  pub count : upto + more ≡ length gnos
  pub row_is : row ≡ option_and_then (λ db. get db id) (gapped setup.tables (loaded setup.base) log gnos)

-- Each read shows so.
abbrev pub ReadsAreGapped : Type 0
ReadsAreGapped = (setup : Setup) (log : List Record) (events_ : List Event) (replies_ : List Reply) → AreLegal setup log events_ replies_ →
    (place : ℕ) (id : RowId) (upto more : ℕ) (row : Option (List ℤ)) →
    slice_get events_ place ≡ Some (events.Read id) → slice_get replies_ place ≡ Some (replies.Read upto more row) →
    ShowsClosed setup log id upto more row

-- what a read tells of how many are published at its moment: so many in all, and in the order of the log no others than the first
pub record TellsPublished (setup : Setup) (pair : Pair) (upto more : ℕ) : Type 0 where
  pub all : upto + more ≡ pair.published
  pub in_order : setup.preserve ≡ true → (upto ≡ pair.published) × (more ≡ 0)

-- No read is refused: each says the number that is published at its moment.
abbrev pub ReadsAreAnswered : Type 0
ReadsAreAnswered = (setup : Setup) (log : List Record) (events_ : List Event) (replies_ : List Reply) → AreLegal setup log events_ replies_ →
    (place : ℕ) (id : RowId) → slice_get events_ place ≡ Some (events.Read id) →
    (upto : ℕ) × (more : ℕ) × (row : Option (List ℤ)) × (slice_get replies_ place ≡ Some (replies.Read upto more row))
    × TellsPublished setup (pair_at events_ replies_ place) upto more

-- No read shows a record that is not synced at the source by then: neither the first of the log, as many as it says, nor any of the
-- commits that it counts.
abbrev pub ReadsAreSynced : Type 0
ReadsAreSynced = (setup : Setup) (log : List Record) (events_ : List Event) (replies_ : List Reply) → AreLegal setup log events_ replies_ →
    (place upto more : ℕ) (row : Option (List ℤ)) → slice_get replies_ place ≡ Some (replies.Read upto more row) →
    let pair = pair_at events_ replies_ place in
    (upto ≤ pair.synced) × ((gno : ℕ) → has_gno (take (upto + more) pair.commits) gno ≡ true → gno ≤ pair.synced)

-- A later read never shows fewer records than an earlier one, neither the first of the log nor all together.
abbrev pub ReadsNeverGoBack : Type 0
ReadsNeverGoBack = (setup : Setup) (log : List Record) (events_ : List Event) (replies_ : List Reply) → AreLegal setup log events_ replies_ →
    (before later m more n others : ℕ) (row seen : Option (List ℤ)) → before < later →
    slice_get replies_ before ≡ Some (replies.Read m more row) → slice_get replies_ later ≡ Some (replies.Read n others seen) →
    (m ≤ n) × (m + more ≤ n + others)

-- The numbers of records, in order: no more are published than committed at the replica, no more committed there than
-- dispatched, no more dispatched than accepted, no more accepted than synced at the source, no more synced than
-- flushed, and all flushed are in the log. And no more are committed at the source than synced.
pub record AreInOrder (log : List Record) (pair : Pair) : Type 0 where
  pub published_within : pair.published ≤ replica_committed pair
  pub replica_committed_within : replica_committed pair ≤ pair.dispatched
  pub dispatched_within : pair.dispatched ≤ pair.accepted
  pub accepted_within : pair.accepted ≤ pair.synced
  pub source_committed_within : pair.source_committed ≤ pair.synced
  pub synced_within : pair.synced ≤ pair.flushed
  pub flushed_within : pair.flushed ≤ length log

-- Each record that is told as committed at the source was told as synced before.
abbrev pub CommittedAreSynced : Type 0
CommittedAreSynced = (setup : Setup) (log : List Record) (events_ : List Event) (replies_ : List Reply) → AreLegal setup log events_ replies_ →
    (place first last gno : ℕ) → slice_get replies_ place ≡ Some (replies.Committed first last) → first ≤ gno → gno ≤ last →
    (before from to : ℕ) × (before < place) × (slice_get replies_ before ≡ Some (replies.Synced from to)) × (from ≤ gno) × (gno ≤ to)

-- At each moment the numbers are in order.
abbrev pub PublishedWithin : Type 0
PublishedWithin = (setup : Setup) (log : List Record) (events_ : List Event) (replies_ : List Reply) → AreLegal setup log events_ replies_ →
    (moment : ℕ) → AreInOrder log (pair_at events_ replies_ moment)

-- the numbers at a moment, and those at a later one
pub record NoneFalls (before later : Pair) : Type 0 where
  pub published_rises : before.published ≤ later.published
  pub replica_committed_rises : replica_committed before ≤ replica_committed later
  pub dispatched_rises : before.dispatched ≤ later.dispatched
  pub accepted_rises : before.accepted ≤ later.accepted
  pub source_committed_rises : before.source_committed ≤ later.source_committed
  pub synced_rises : before.synced ≤ later.synced
  pub flushed_rises : before.flushed ≤ later.flushed

-- None of the numbers ever falls: what is synced stays synced, and what is published stays published.
abbrev pub NumbersNeverFall : Type 0
NumbersNeverFall = (setup : Setup) (log : List Record) (events_ : List Event) (replies_ : List Reply) → AreLegal setup log events_ replies_ →
    (before later : ℕ) → before ≤ later → NoneFalls (pair_at events_ replies_ before) (pair_at events_ replies_ later)

-- In the order of the log the commits at the replica come once each, in that order: the first is of record 1, and each further one of
-- the record behind the last.
abbrev pub EachCommitOnceInOrder : Type 0
EachCommitOnceInOrder = (setup : Setup) (log : List Record) (events_ : List Event) (replies_ : List Reply) → AreLegal setup log events_ replies_ →
    setup.preserve ≡ true →
    (place gno : ℕ) → slice_get replies_ place ≡ Some (replies.Commit gno) → gno ≡ count_by is_commit (take place replies_) + 1

-- In whatever order, no record is committed twice.
abbrev pub EachCommitOnce : Type 0
EachCommitOnce = (setup : Setup) (log : List Record) (events_ : List Event) (replies_ : List Reply) → AreLegal setup log events_ replies_ →
    (before later gno : ℕ) → before < later → slice_get replies_ before ≡ Some (replies.Commit gno) →
    slice_get replies_ later ≡ Some (replies.Commit gno) → ⊥

-- No call of the replica is refused but for a gap, at a delivery, or for want of memory: it never stops.
abbrev pub RefusesOnlyGaps : Type 0
RefusesOnlyGaps = (setup : Setup) (log : List Record) (events_ : List Event) (replies_ : List Reply) → AreLegal setup log events_ replies_ →
    (place : ℕ) (fault : ReplicaFault) → slice_get replies_ place ≡ Some (replies.Replica fault) →
    (fault ≡ replica.Memory) ⊎ ((fault ≡ replica.Gap) × (gno : ℕ) × (slice_get events_ place ≡ Some (events.Deliver gno)))

-- an event that asks the source: those of its sessions, a flush, a sync, a commit and a rotation
abbrev pub asks_source : Event → Bool
asks_source event = elim event [
  | events.Begin session ↦ true
  | events.Write session change ↦ true
  | events.See session id ↦ true
  | events.Prepare session ↦ true
  | events.Queue session ↦ true
  | events.Abort session ↦ true
  | events.Flush ↦ true
  | events.Sync ↦ true
  | events.Commit ↦ true
  | events.Rotate ↦ true
  | _ ↦ false
]

-- Once a sync or a rotation is answered that a device of the log failed, each later event that asks the source is answered that it
-- is halted.
abbrev pub HaltsForGood : Type 0
HaltsForGood = (setup : Setup) (log : List Record) (events_ : List Event) (replies_ : List Reply) → AreLegal setup log events_ replies_ →
    (before later : ℕ) (event : Event) → before < later → slice_get replies_ before ≡ Some (replies.Log log_file.Device) →
    slice_get events_ later ≡ Some event → asks_source event ≡ true → slice_get replies_ later ≡ Some (replies.Source source.Halted)

-- In the order of the log, at each moment the operations of the published records, put in order into an empty store, leave the rows that
-- readers have: those of the source after as many records.
abbrev pub OperationsLeaveRows : Type 0
OperationsLeaveRows = (setup : Setup) (log : List Record) (events_ : List Event) (replies_ : List Reply) → AreLegal setup log events_ replies_ →
    setup.preserve ≡ true →
    (moment : ℕ) → let upto = (pair_at events_ replies_ moment).published in
    rows_after setup log upto ≡ Some (left_by (operations_in_order setup.tables setup.base log upto))

-- What the replica accepts is synced at the source before, and is the next record behind those that it has.
abbrev pub NothingUnsyncedIsAccepted : Type 0
NothingUnsyncedIsAccepted = (setup : Setup) (log : List Record) (events_ : List Event) (replies_ : List Reply) → AreLegal setup log events_ replies_ →
    (place : ℕ) → slice_get replies_ place ≡ Some replies.Accepted →
    (gno : ℕ) × (slice_get events_ place ≡ Some (events.Deliver gno)) × (gno ≤ (pair_at events_ replies_ place).synced)
    × (gno ≡ (pair_at events_ replies_ place).accepted + 1)

-- a reply that says that memory ran out
abbrev pub is_memory : Reply → Bool
is_memory reply = is_source_memory reply || is_replica_memory reply || is_codec_memory reply || is_log_memory reply

-- Two lists of replies to one list of events, in neither of which a reply says that memory ran out: in both a device of
-- the log failed in the same event, or in none.
pub record FailAlike (replies_ others : List Reply) : Type 0 where
  pub enough : list_any is_memory replies_ ≡ false
  pub enough_there : list_any is_memory others ≡ false
  pub failures : map is_failure replies_ ≡ map is_failure others

-- Whatever else is a legal list of replies to these events, by whichever log, and fails alike, is this list.
abbrev pub IsOnlyAnswer : Setup → List Event → List Reply → Type 0
IsOnlyAnswer setup events_ replies_ = (log : List Record) (others : List Reply) → AreLegal setup log events_ others → FailAlike replies_ others → others ≡ replies_

-- Legal replies are the only ones. So what a run began with and its events fix its replies, but for want of memory and
-- for the choice of the sync or the rotation in which a device failed: over whichever stores it runs, it answers the same.
abbrev pub OneAnswer : Type 0
OneAnswer = (setup : Setup) (log : List Record) (events_ : List Event) (replies_ : List Reply) → AreLegal setup log events_ replies_ → IsOnlyAnswer setup events_ replies_

-- And so it is with the log: two logs by which such lists are legal have the same records, as many as are flushed.
abbrev pub OneLog : Type 0
OneLog = (setup : Setup) (log other_log : List Record) (events_ : List Event) (replies_ others : List Reply) →
    AreLegal setup log events_ replies_ → AreLegal setup other_log events_ others → FailAlike replies_ others →
    let upto = (pair_after new_pair events_ replies_).flushed in take upto other_log ≡ take upto log

-- Where both sides are over one schema and began with the same rows, and the records that the replica accepted are a
-- beginning of the source's log, the replica's database after the first so many is the source's after as many.
abbrev pub BeginningHasRows : Type 0
BeginningHasRows = (s : Source) (r : Replica) → r.tables ≡ s.tables → loaded s.base ≡ loaded r.base → IsPrefix r.accepted s.log →
    (n : ℕ) → n ≤ length r.accepted → rows_at r n ≡ after s.tables (loaded s.base) (take n s.log)

-- Where moreover commits are in the order of the log, and these are the operations of the first records that the replica committed, as
-- `end` says of what it published: whoever saw no more commits than those saw the source's database after as many records. `known` is
-- what its seat knew in the end, once it learnt what was published: both lists are beginnings of it.
abbrev pub SeatsSeeTheSource : Type 0
SeatsSeeTheSource = (s : Source) (r : Replica) (published seen known : List Op) → IsSound s → r.preserve ≡ true →
    r.tables ≡ s.tables → loaded s.base ≡ loaded r.base → IsPrefix r.accepted s.log →
    published ≡ operations_in_order r.tables r.base r.accepted (commits_in published) → commits_in published ≤ length r.accepted →
    IsPrefix published known → IsPrefix seen known → IsHistory true seen → commits_in seen ≤ commits_in published →
    after s.tables (loaded s.base) (take (commits_in seen) s.log) ≡ Some (left_by seen)
