-- What lies under the lock of a shared replica, and what is true of it each time that the lock is taken.
use Rattle.std.specs.Prelude.{◌≡◌, ◌⊎◌, ℕ, ◌+◌, ◌-◌, ◌<◌, ◌≤◌, Bool, true, false, not, ◌&&◌, ◌||◌, ◌==◌, nat_lt, IfErr, IfSome, MatchOption, List, [], ◌∷◌, ◌++◌, map, length, slice_get, Option, Some}
use Rattle.std.specs.Prelude.{None, is_some, Result, Ok, Err}
use Rattle.std.specs.List.{filter}
use mathlib.Core.List.{IsPrefix}
use Rattle.rows.specs.Database.{Database}
use Rattle.store_trait.specs.Batch.{Entry}
use Rattle.store_trait.specs.declared.Op.{Op}
use Rattle.store_trait.specs.declared.Op.TheVariants.{Load}
use Rattle.record_codec.specs.declared.records.Record.{Record}
use Rattle.published.specs.declared.counts.Counts.{Counts}
use Rattle.gtid_set.specs.declared.intervals.Interval.{Interval}
use Rattle.published.specs.History.{IsHistory, gnos_of, commits_in}
use Rattle.published.specs.Publication.{Publishing}
use Rattle.published.specs.Status.{counts_of, latest}
use Rattle.executor.specs.declared.Job.{Job}
use Rattle.executor.specs.declared.Outcome.{Outcome}
use Rattle.executor.specs.declared.Outcome.TheVariants as outcomes
use Rattle.executor.specs.Job.{outcome_over}
use Rattle.relay.specs.declared.ReplicaFault.{ReplicaFault}
use Rattle.relay.specs.declared.ReplicaFault.TheVariants as faults
use Rattle.relay.specs.declared.Received.{Received}
use Rattle.relay.specs.declared.Received.TheVariants.{Accepted, Skipped}
use Rattle.scheduler.specs.Gnos.{has_gno, low_of, AreDistinct}
use Rattle.replica_core.specs.Replica.{Replica, working_rows, ran, operations, operations_in_order}
use Rattle.replica_core.specs.Calls.{next_commit, next_job, is_eligible, dispatched_next, with_finished, left_by_fault, with_published, left_by_receive}
use Rattle.replica_core.specs.Sound.{IsUnderWay}
use Rattle.replica_shared.specs.Awaited.{has_all}
use Rattle.replica_shared.specs.Names.{ReplicaNames, IsReplicaOf, IsOfLog, IsKnown}
use Rattle.replica_shared.specs.Outlet.{Queued, AreInLine, empty_outlet}
use Rattle.replica_shared.specs.declared.news.News.{News}
use Rattle.replica_shared.specs.declared.news.Outlook.{Outlook}
use Rattle.replica_shared.specs.declared.news.Call.{Call}
use Rattle.replica_shared.specs.declared.news.Call.TheVariants as calls
use Rattle.replica_shared.specs.declared.news.Next.{Next}
use Rattle.replica_shared.specs.declared.news.Next.TheVariants as found

pub record State : Type 0 where
  pub core : Replica
  pub publication : Publishing
  -- no more records come
  pub closed : Bool
  -- the jobs for which memory ran out
  pub kept : List Job
  -- the coordinator's end of the queue: the first so many jobs were pushed, and the next may wait for memory
  pub outlet : Queued
  -- so many of those pushed were claimed by workers
  pub claimed : ℕ
  -- something may be left to commit, to publish or to dispatch, as behind want of memory
  pub behind : Bool
  -- what those who wait were told last
  pub told : Outlook

-- a state of these parts
abbrev pub state_of : Replica → Publishing → Bool → List Job → Queued → ℕ → Bool → Outlook → State
state_of core publication closed kept outlet claimed behind told = record {
  core = core;
  publication = publication;
  closed = closed;
  kept = kept;
  outlet = outlet;
  claimed = claimed;
  behind = behind;
  told = told;
}

-- how far the replica is
abbrev pub words_of : Replica → Counts
words_of r = counts_of (length r.accepted) (length r.commits) r.published

-- What the core keeps is true of itself: its rows are those after the committed records. With it, over one base, stand the
-- publisher and the words of the status. It takes the records of this source, and only those of the log, if that is known.
pub record StandTogether (names : ReplicaNames) (preserve : Bool) (r : Replica) (p : Publishing) (appended : ℕ) (stored : List Counts) : Type 0 where
  pub named : IsReplicaOf names preserve r
  -- each commit is of an accepted record
  pub within : (gno : ℕ) → has_gno r.commits gno ≡ true → (1 ≤ gno) × (gno ≤ length r.accepted)
  pub history : IsHistory preserve p.published
  -- the operations that are published, and behind them those that are appended, are the first of those of the commits
  pub begins : IsPrefix (p.published ++ p.waiting) (operations r.tables r.base (ran r) (length r.commits))
  -- as many count as published as the publisher has published
  pub shown : r.published ≡ commits_in p.published
  -- the words that were stored last
  pub words : latest stored ≡ words_of r
  pub number : appended ≡ commits_in p.published + length p.waiting
  -- in the order of the log the operations of the commits are those of the first accepted records
  pub in_order : preserve ≡ true → (n : ℕ) → n ≤ length r.commits → operations r.tables r.base (ran r) n ≡ operations_in_order r.tables r.base r.accepted n
  pub of_log : IsOfLog names.log r.accepted

-- whatever the words were, and the number of those appended
pub record StoodTogether (names : ReplicaNames) (preserve : Bool) (r : Replica) (p : Publishing) : Type 0 where
  pub appended : ℕ
  pub stored : List Counts
  pub stand : StandTogether names preserve r p appended stored

-- the numbers of the jobs
abbrev pub numbers_of : List Job → List ℕ
numbers_of jobs = map (λ (job : Job). job.gno) jobs

-- of each number one job at most is kept, and no more than there are places
pub record AreKept (kept : List Job) : Type 0 where
  pub distinct : AreDistinct (numbers_of kept)
  pub few : length kept ≤ 64

-- a job of a record of which no result was taken, and of another number
abbrev pub is_out_beside : Replica → ℕ → Job → Bool
is_out_beside r gno job = has_gno r.out job.gno && not (job.gno == gno)

-- those of the jobs
abbrev pub out_beside : Replica → ℕ → List Job → List Job
out_beside r gno kept = filter (is_out_beside r gno) kept

-- the job is kept, in the place of one of its number, and those of records of which a result was taken no longer
abbrev pub laid : Replica → Job → List Job → List Job
laid r job kept = out_beside r job.gno kept ++ job ∷ []

-- of each record that had a kept job, and of which no result was taken, one is kept still
abbrev pub NoneLost : Replica → List Job → List Job → Type 0
NoneLost r kept then = (gno : ℕ) → has_gno r.out gno ≡ true → has_gno (numbers_of kept) gno ≡ true → has_gno (numbers_of then) gno ≡ true

-- a job whose result is refused so is kept where memory ran out
abbrev pub taken_back : Replica → ReplicaFault → Job → List Job → List Job
taken_back r faults.Memory job kept = laid r job kept
taken_back r _ job kept = kept

-- the job that was kept first is taken out, where any is kept
abbrev pub TakesOut : List Job → Option Job → List Job → Type 0
TakesOut kept None then = (kept ≡ []) × (then ≡ [])
TakesOut kept (Some job) then = kept ≡ job ∷ then

-- Nothing comes of the record of this number, over the working rows, that it could be committed by: its changes do not apply there,
-- or look at other parent rows or have other marks than it states.
pub record HasNoOutput (r : Replica) (gno : ℕ) : Type 0 where
  pub rec : Record
  pub got : slice_get r.accepted (gno - 1) ≡ Some rec
  pub rows : Database
  pub rows_are : working_rows r ≡ Some rows
  pub none : (outcome_over r.tables rec rows ≡ outcomes.Undefined) ⊎ (outcome_over r.tables rec rows ≡ outcomes.WrongRefs)

-- it may stop at the record of this number, which was handed out and is not committed
abbrev pub MayStopAt : Replica → ℕ → Type 0
MayStopAt r at = IsUnderWay r at × HasNoOutput r at

-- where it stopped it may
abbrev pub StopsRightly : Replica → Type 0
StopsRightly r = IfSome r.stopped (MayStopAt r)

-- it tells of a stop
abbrev pub IsStop : ReplicaFault → Type 0
IsStop fault = (at : ℕ) × (fault ≡ faults.Stopped at)

-- What is told of the stop of this state: its core, which is one of this replica, has stopped at that record, as it may.
pub record IsStopOf (names : ReplicaNames) (preserve : Bool) (s : State) (fault : ReplicaFault) : Type 0 where
  pub named : IsReplicaOf names preserve s.core
  pub at : ℕ
  pub stopped : s.core.stopped ≡ Some at
  pub told : fault ≡ faults.Stopped at
  pub cause : StopsRightly s.core
  pub history : IsHistory preserve s.publication.published

-- one of these commits is not published
abbrev pub IsStopBehind : ReplicaNames → Bool → List Interval → State → ReplicaFault → Type 0
IsStopBehind names preserve wanted s fault =
    IsStopOf names preserve s fault × (has_all (gnos_of s.publication.published) wanted ≡ false)

-- what one knows who waited for these commits, and is told of a stop
pub record TellsStopBehind (names : ReplicaNames) (preserve : Bool) (wanted : List Interval) (fault : ReplicaFault) : Type 0 where
  pub state : State
  pub stop : IsStopBehind names preserve wanted state fault

-- What a caller knows who is told of a stop: one of the commits from 1 to this number is not published; in the order of the log the
-- commit of this number is not.
pub record TellsStop (names : ReplicaNames) (preserve : Bool) (gno : ℕ) (fault : ReplicaFault) : Type 0 where
  pub state : State
  pub stop : IsStopOf names preserve state fault
  pub behind : low_of (gnos_of state.publication.published) < gno
  pub in_order : preserve ≡ true → commits_in state.publication.published < gno

-- neither are these commits published, each of them, nor is the replica stopped
abbrev pub is_awaited : State → List Interval → Bool
is_awaited s wanted = not (has_all (gnos_of s.publication.published) wanted || is_some s.core.stopped)

-- Of the same accepted records more may be committed, behind those that were, and what is published goes on from what was.
pub record IsLater (old new : State) : Type 0 where
  pub tables : new.core.tables ≡ old.core.tables
  pub source : new.core.source ≡ old.core.source
  pub base : new.core.base ≡ old.core.base
  pub order : new.core.preserve ≡ old.core.preserve
  pub accepted : new.core.accepted ≡ old.core.accepted
  pub commits : IsPrefix old.core.commits new.core.commits
  pub published : IsPrefix old.publication.published new.publication.published
  pub closed : new.closed ≡ old.closed

-- all is committed that can be, published and dispatched
pub record IsCaughtUp (r : Replica) (outlet : Queued) : Type 0 where
  pub committed : next_commit r ≡ None
  pub published : r.published ≡ length r.commits
  pub dispatched : is_eligible r ≡ false
  pub pushed : outlet.aside ≡ None

-- something is left to do only where the state says so, or where the replica is stopped
abbrev pub IsBehindOrCaughtUp : State → Type 0
IsBehindOrCaughtUp s = s.core.stopped ≡ None → s.behind ≡ false → IsCaughtUp s.core s.outlet

-- no more records come, and all that did are committed and published
abbrev pub is_ended : State → Bool
is_ended s = s.closed && (length s.core.commits == length s.core.accepted) && (s.core.published == length s.core.commits)

-- all that is true each time that the lock is taken
pub record IsWhole (names : ReplicaNames) (preserve : Bool) (known : Option (List Op)) (s : State) (appended : ℕ) (stored : List Counts) : Type 0 where
  pub stand : StandTogether names preserve s.core s.publication appended stored
  pub kept : AreKept s.kept
  pub line : AreInLine s.core.dispatched s.outlet
  pub claims : s.claimed ≤ s.outlet.pushed
  pub stops : StopsRightly s.core
  pub rest : IsBehindOrCaughtUp s
  pub known_is : IsKnown names preserve known

-- ---- what those who wait are told

-- how many jobs there are that no worker has
abbrev pub offers : State → ℕ
offers s = (s.outlet.pushed - s.claimed) + length s.kept

abbrev pub outlook_of : State → Outlook
outlook_of s = record {
  offers = offers s;
  behind = s.behind;
  published = commits_in s.publication.published;
  over = is_some s.core.stopped || is_ended s;
}

-- there is nothing for a worker: it waits
abbrev pub is_idle : State → Bool
is_idle s = not (nat_lt 0 (offers s) || s.behind || (is_some s.core.stopped || is_ended s))

-- all are to be woken, or one is, or nobody
abbrev pub call_of : Bool → Bool → Call
call_of true one = calls.All
call_of false true = calls.One
call_of false false = calls.Nobody

-- At a stop and at the end all are told. Else one worker is told where something is left to do, and where there are jobs and
-- their number is another than was told: it takes one, and tells the next. Those who wait for a commit are told where more is
-- published.
abbrev pub news_between : Outlook → Outlook → News
news_between told now = record {
  workers = call_of (now.over && not told.over) (now.behind || (nat_lt 0 now.offers && (not (now.offers == told.offers) || told.behind)));
  readers = call_of ((now.over && not told.over) || nat_lt told.published now.published) false;
}

-- what there is was told
abbrev pub IsTold : State → Type 0
IsTold s = s.told ≡ outlook_of s

-- ---- what each step leaves

-- what is answered to a result of the job of this number that was handed out
abbrev pub answered : ℕ → Outcome → Result (Unit {0}) ReplicaFault
answered gno (outcomes.Output batch) = Ok tt
answered gno outcomes.Undefined = Err (faults.Stopped gno)
answered gno outcomes.WrongRefs = Err (faults.Stopped gno)
answered gno outcomes.Memory = Err faults.Memory

-- the publisher has these operations, and nothing else changes
abbrev pub with_publication : State → Publishing → State
with_publication s publication = record s { publication = publication }

-- these operations are appended
abbrev pub with_waiting : State → List Op → State
with_waiting s waiting = with_publication s (record s.publication { waiting = waiting })

-- the operations of all committed records are published or appended
pub record IsAppended (r : Replica) (p : Publishing) : Type 0 where
  pub all : p.published ++ p.waiting ≡ operations r.tables r.base (ran r) (length r.commits)
  pub number : commits_in p.published + length p.waiting ≡ length r.commits

-- all that was appended is published
abbrev pub published_all : Publishing → Publishing
published_all p = record { published = p.published ++ p.waiting; waiting = []; history = p.published ++ p.waiting }

abbrev pub shown : State → State
shown s = record s {
  core = with_published s.core (commits_in s.publication.published + length s.publication.waiting);
  publication = published_all s.publication;
}

-- the load of these rows is published, and nothing else
abbrev pub loaded_alone : List Entry → Publishing
loaded_alone base = record { published = Load base ∷ []; waiting = []; history = Load base ∷ [] }

-- over a new core, whose rows are published
abbrev pub new_state : Replica → State
new_state core = state_of core (loaded_alone core.base) false [] empty_outlet 0 false
    (record { offers = 0; behind = false; published = 0; over = false })

-- A later state, in which all was done that could be, whether or not it says that something is left. What is kept, what was claimed and
-- what was told stays.
pub record SettlesBeside (old new : State) : Type 0 where
  pub later : IsLater old new
  pub stopped : new.core.stopped ≡ old.core.stopped
  pub kept : new.kept ≡ old.kept
  pub claimed : new.claimed ≡ old.claimed
  pub told : new.told ≡ old.told

abbrev pub Settles : State → State → Type 0
Settles old new = SettlesBeside (record old { behind = false }) (record new { behind = false })

-- why it may not be
abbrev pub IsFaultOf : State → ReplicaFault → Type 0
IsFaultOf s fault = MatchOption s.core.stopped (fault ≡ faults.Memory) (λ at. fault ≡ faults.Stopped at)

-- what the core's `receive` leaves
abbrev pub left_by_accept : State → Record → Received → State
left_by_accept s new Accepted = record s { core = left_by_receive s.core new Accepted; behind = true }
left_by_accept s new Skipped = s

abbrev pub AcceptsAndSettles : State → Record → State → Type 0
AcceptsAndSettles s new then = Settles (left_by_accept s new Accepted) then

-- what the core's `finish` leaves
abbrev pub left_by_finish : State → ℕ → State
left_by_finish s gno = record s { core = with_finished s.core gno; behind = true }

abbrev pub refused_so : State → ReplicaFault → Job → State
refused_so s fault job = record s { core = left_by_fault s.core fault; kept = taken_back s.core fault job s.kept }

-- A result of the job that was handed out: where it is taken all is done that then can be. Where its record does not apply, or
-- states other refs than its changes look at, the replica stops at that record, and where memory ran out the job is kept.
abbrev pub HandsIn : State → Job → Outcome → Result (Unit {0}) ReplicaFault → State → Type 0
HandsIn s job (outcomes.Output batch) result then = Settles (left_by_finish s job.gno) then × IfErr result (λ fault. fault ≡ faults.Memory)
HandsIn s job outcomes.Undefined result then = (result ≡ Err (faults.Stopped job.gno)) × (then ≡ refused_so s (faults.Stopped job.gno) job)
HandsIn s job outcomes.WrongRefs result then = (result ≡ Err (faults.Stopped job.gno)) × (then ≡ refused_so s (faults.Stopped job.gno) job)
HandsIn s job outcomes.Memory result then = (result ≡ Err faults.Memory) × (then ≡ refused_so s faults.Memory job)

-- one more record is dispatched, and its job is the next to be pushed
pub record DispatchesOne (old new : State) : Type 0 where
  pub job : Job
  pub is_next : next_job old.core ≡ Some job
  pub left : new ≡ record old { core = dispatched_next old.core; outlet = record old.outlet { aside = Some job } }

-- records are dispatched and their jobs are pushed, and else nothing changes
pub record DispatchesMore (old new : State) : Type 0 where
  pub core : new.core ≡ record old.core { dispatched = new.core.dispatched; out = new.core.out }
  pub commit : next_commit new.core ≡ next_commit old.core
  pub same : new ≡ record old { core = new.core; outlet = new.outlet }

-- a worker claims one of the jobs that were pushed
abbrev pub with_claim : State → State
with_claim s = record s { claimed = s.claimed + 1 }

-- no job is kept
abbrev pub NoneIsKept : List Job → Type 0
NoneIsKept kept = kept ≡ []

-- no job is kept, and each that was pushed was claimed
abbrev pub NoneIsLeft : State → Type 0
NoneIsLeft s = NoneIsKept s.kept × (s.outlet.pushed ≤ s.claimed)

-- What a worker finds: a job that is kept comes first, then one that was pushed. There is none only where neither is, and none
-- from then on exactly at the end.
abbrev pub Finds : State → Next → State → Type 0
Finds s (found.Kept job) then = TakesOut s.kept (Some job) then.kept × (then ≡ record s { kept = then.kept })
Finds s (found.Claim claim) then = NoneIsKept s.kept × (s.claimed < s.outlet.pushed) × (then ≡ with_claim s)
Finds s found.Nothing then = NoneIsLeft s × (is_ended s ≡ false) × (then ≡ s)
Finds s found.Ended then = NoneIsLeft s × (is_ended s ≡ true) × (then ≡ s)

-- the same once all is done that was left behind
pub record FindsBehind (old : State) (next : Next) (new : State) : Type 0 where
  pub between : State
  pub settles : Settles old between
  pub caught_up : IsCaughtUp between.core between.outlet
  pub behind : between.behind ≡ false
  pub finds : Finds between next new
