-- How the parts of a world stand together, and to the state of the pair.
use mathlib.Core.List.{IsPrefix}
use Rattle.std.specs.Prelude.{◌≡◌, ℕ, ◌+◌, ◌≤◌, Bool, true, false, List, ◌∷◌, ◌++◌, length, map, take, drop, Option, Some, None}
use Rattle.std.specs.List.{AllByRecursion}
use Rattle.rows.specs.Database.{Database}
use Rattle.store_trait.specs.Operation.{batch_of, loaded}
use Rattle.record_codec.specs.declared.records.Record.{Record}
use Rattle.record_codec.specs.Version.{current}
use Rattle.record_codec.specs.Group.{GroupValue, AreNumbered, Hold}
use Rattle.record_codec.specs.Log.{after}
use Rattle.scheduler.specs.Gnos.{has_gno, low_of, first_gnos}
use Rattle.gapped.specs.Gapped.{records_at}
use Rattle.source_core.specs.Source.{Source, IsSound}
use Rattle.schema.specs.declared.Table.{Table}
use Rattle.store_trait.specs.Batch.{Entry}
use Rattle.executor.specs.declared.Job.{Job}
use Rattle.replica_core.specs.Replica.{Replica, job_of, commits_from}
use Rattle.published.specs.Plain.{Shown}
use Rattle.log_file.specs.Head.{new_head}
use Rattle.log_file.specs.Log.{Log}
use Rattle.log_file.specs.Flushed.{IsFlushedOf, kept_of}
use Rattle.log_file.specs.Calls.{ends as ends_of}
use Rattle.log_file.specs.declared.form.Form.TheVariants.{Three}
use Rattle.log_set.specs.Set.{SetOn}
use Rattle.world.specs.Put.{OneFailed, SomeFailed}
use Rattle.world.specs.Waiting.{numbers_of}
use Rattle.world.specs.declared.events.Event.{Event}
use Rattle.world.specs.declared.events.Event.TheVariants as events
use Rattle.world.specs.declared.events.Reply.{Reply}
use Rattle.world.specs.Pair.{Pair, next, is_failure}
use Rattle.world.specs.Legal.{Setup, source_at, replica_at, Allowed}

-- what lies between the two sides
pub record Link (D : Type 0) : Type 0 where
  -- the log of all files, which has the groups that are synced
  pub log : Log
  -- the gno that each file begins with, and how many groups stand in the files before it
  pub firsts : List ℕ
  pub starts : List ℕ
  -- the devices of the finished files, in order, that of the last one, and those of its next ones
  pub past : List D
  pub device : D
  pub spare : List D
  -- the groups that are flushed and not synced, the oldest first
  pub unsynced : List GroupValue

-- the log's files, and their devices
abbrev pub set_of : {D : Type 0} → Link D → SetOn D
set_of wire = record { log = wire.log; firsts = wire.firsts; starts = wire.starts; past = wire.past; device = wire.device }

-- all devices, in the order in which files are made on them
abbrev pub devices_of : {D : Type 0} → Link D → List D
devices_of wire = wire.past ++ wire.device ∷ wire.spare

-- the count of failures of each; that of the last file's device is the log's
abbrev pub counts_of : {D : Type 0} → (D → ℕ) → Link D → List ℕ
counts_of faults wire = map faults wire.past ++ wire.log.faults ∷ map faults wire.spare

-- a world as the values of its parts
pub record World (D R : Type 0) : Type 0 where
  pub source : Source
  pub wire : Link D
  pub replica : Replica
  -- the jobs that wait to be executed, in log order
  pub jobs : List Job
  -- the rows that readers see
  pub shown : Shown R

-- The source is sound.
pub record IsSource (s : Source) : Type 0 where
  pub sound : IsSound s

-- The wire of a source with this log, of which so many records are synced: the log and the groups that are not synced are what was flushed of it,
-- and the log's groups hold the synced records, in the form that sources write. The source is halted where the log failed; where it did not,
-- no group is in it that waits for its sync. The last file is not finished. What came over the wire is a beginning of the synced log. There are
-- 16 devices.
pub record IsWire (log : List Record) (synced_ : ℕ) (sizes_ : List ℕ) (halted_ : Bool) (accepted_ : List Record) (file : Log) (unsynced_ : List GroupValue) (files_ spares_ : ℕ) :
    Type 0 where
  pub flushed : IsFlushedOf log synced_ sizes_ (kept_of file) unsynced_
  pub on_log : Hold file.groups (take synced_ log)
  pub versions : AllByRecursion (λ g. g.version ≡ current) file.groups
  pub failed : file.failed ≡ halted_
  pub ready : file.failed ≡ false → file.waiting ≡ None
  pub goes : file.finished ≡ false
  pub front : accepted_ ≡ take (length accepted_) log
  pub within : length accepted_ ≤ synced_
  pub form : file.head.form ≡ Three
  pub places : files_ + spares_ ≡ 16

-- The replica is over the source's schema and base, takes the records of the log's source, and did not stop. In the order of the log it
-- has committed the first records.
pub record IsReplica (ts : List Table) (start : List Entry) (identifier_ : List ℕ) (its_tables : List Table) (its_base : List Entry) (its_source : List ℕ) (stopped_ : Option ℕ) (preserve_ : Bool)
    (commits_ : List ℕ) : Type 0 where
  pub tables : its_tables ≡ ts
  pub base : its_base ≡ start
  pub source : its_source ≡ identifier_
  pub going : stopped_ ≡ None
  pub in_order : preserve_ ≡ true → commits_ ≡ first_gnos (length commits_)

-- The jobs that wait are of the records that are out, each the one that the replica handed out.
pub record HasJobs (r : Replica) (jobs : List Job) : Type 0 where
  pub out : numbers_of jobs ≡ r.out
  pub each : AllByRecursion (λ (job : Job). job_of r job.gno ≡ Some job) jobs

-- Readers see what the replica's published commits left, one after another, and are told up to which record all are among them, and how
-- many others are. Of the commits behind these, all up to some committed one were appended to those rows.
pub record IsShown {R : Type 0} (contents : R → Database) (ts : List Table) (base : List Entry) (accepted_ : List Record) (preserve_ : Bool) (commits_ : List ℕ) (published_ : ℕ)
    (shown : Shown R) : Type 0 where
  pub order : shown.preserve ≡ preserve_
  pub mark : shown.upto ≡ low_of (take published_ commits_)
  pub counted : shown.upto + shown.more ≡ published_
  pub ran : after ts (loaded base) (take published_ (records_at accepted_ commits_)) ≡ Some (contents shown.store)
  pub upto : ℕ
  pub there : published_ ≤ length accepted_
  pub later : published_ ≤ upto
  pub done : upto ≤ length commits_
  pub gnos : (gno : ℕ) → has_gno shown.gnos gno ≡ has_gno (take upto commits_) gno
  pub are : shown.waiting ≡ map batch_of (drop published_ (commits_from ts (loaded base) (take upto (records_at accepted_ commits_))))

-- What is true of every world, whatever came before.
pub record IsWorld {D R : Type 0} (contents : R → Database) (w : World D R) : Type 0 where
  pub source : IsSource w.source
  pub wire : IsWire w.source.log w.source.synced w.source.group_sizes w.source.halted w.replica.accepted w.wire.log w.wire.unsynced (length w.wire.firsts) (length w.wire.spare)
  pub replica : IsReplica w.source.tables w.source.base w.wire.log.head.source w.replica.tables w.replica.base w.replica.source w.replica.stopped w.replica.preserve w.replica.commits
  pub jobs : HasJobs w.replica w.jobs
  pub readers : IsShown contents w.replica.tables w.replica.base w.replica.accepted w.replica.preserve w.replica.commits w.replica.published w.shown

-- The source is as it is said to be, with so many records flushed.
pub record SourceIs (said : Source) (flushed_ : ℕ) (s : Source) : Type 0 where
  pub flushed : flushed_ ≡ length s.log
  pub is : s ≡ said

-- The log is that of this source; these groups are flushed and not synced, and these are synced; its files begin so.
pub record WireIs {D : Type 0} (identifier_ : List ℕ) (unsynced_ synced_ : List (ℕ × ℕ)) (firsts_ starts_ : List ℕ) (wire : Link D) : Type 0 where
  pub head : wire.log.head ≡ new_head identifier_
  pub unsynced : map ends_of wire.unsynced ≡ unsynced_
  pub synced : map ends_of wire.log.groups ≡ synced_
  pub firsts : wire.firsts ≡ firsts_
  pub starts : wire.starts ≡ starts_

-- The replica is as it is said to be, with so many records accepted.
pub record ReplicaIs (said : Replica) (accepted_ : ℕ) (r : Replica) : Type 0 where
  pub accepted : accepted_ ≡ length r.accepted
  pub is : r ≡ said

-- Each side is as it is said to be. What readers see follows from the replica's side.
pub record SidesAre {D : Type 0} (source_ : Source) (flushed_ : ℕ) (identifier_ : List ℕ) (unsynced_ synced_ : List (ℕ × ℕ)) (firsts_ starts_ : List ℕ) (replica_ : Replica)
    (accepted_ : ℕ) (s : Source) (wire_ : Link D) (r : Replica) : Type 0 where
  pub source : SourceIs source_ flushed_ s
  pub wire : WireIs identifier_ unsynced_ synced_ firsts_ starts_ wire_
  pub replica : ReplicaIs replica_ accepted_ r

-- the world is as this state says
abbrev pub Stands : {D R : Type 0} → Setup → Pair → World D R → Type 0
Stands setup pair w =
    SidesAre (source_at setup w.source.log pair) pair.flushed setup.identifier pair.unsynced pair.synced_groups pair.firsts pair.starts (replica_at setup w.source.log pair)
    pair.accepted w.source w.wire w.replica

-- What a reply tells of the counts of the devices' failures: one of them grew, or is at its last value, where the reply says that a
-- device failed, and else all are as they were.
pub record IsCounted (before : List ℕ) (reply : Reply) (now : List ℕ) : Type 0 where
  pub quiet : is_failure reply ≡ false → now ≡ before
  pub told : is_failure reply ≡ true → OneFailed before now

-- What a reply tells of the log's devices. Where the log failed meanwhile, a device failed by its count.
pub record TellsFailure {D R : Type 0} (faults : D → ℕ) (reply : Reply) (old new : World D R) : Type 0 where
  pub counted : IsCounted (counts_of faults old.wire) reply (counts_of faults new.wire)
  pub seen : old.wire.log.failed ≡ false → new.wire.log.failed ≡ true → SomeFailed (counts_of faults old.wire) (counts_of faults new.wire)

-- The log and its devices are as they were, and the reply tells of no failure.
pub record Rests {D : Type 0} (reply : Reply) (old new : Link D) : Type 0 where
  pub quiet : is_failure reply ≡ false
  pub same : new ≡ record old { unsynced = new.unsynced }

-- One event: the world stays one, its log grows at its end, what is no sync and no rotation leaves the log's files and devices as they were, and, whatever state the world
-- stood for, it stands for the next one, and the reply is allowed by each numbered log that the world's log begins.
pub record Goes {D R : Type 0} (contents : R → Database) (old : World D R) (event : Event) (reply : Reply) (new : World D R) : Type 0 where
  pub world : IsWorld contents new
  pub grows : IsPrefix old.source.log new.source.log
  pub still : (event ≡ events.Sync → ⊥) → (event ≡ events.Rotate → ⊥) → Rests reply old.wire new.wire
  pub stands : (setup : Setup) (pair : Pair) → Stands setup pair old → Stands setup (next pair event reply) new
  pub allowed : (setup : Setup) (pair : Pair) (log : List Record) → Stands setup pair old → IsPrefix new.source.log log → AreNumbered 1 log →
      Allowed setup log pair event reply
