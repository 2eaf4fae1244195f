-- What each call of a replica answers, and what it leaves.
use Rattle.std.specs.Prelude.{◌≡◌, ℕ, ◌+◌, ◌-◌, Bool, true, false, not, ◌&&◌, ◌||◌, ◌==◌, nat_le, nat_lt, if◌then◌else◌, List, [], ◌∷◌, ◌++◌, length, slice_get, Option, Some, None, Result, Ok, Err}
use Rattle.std.specs.Option.{option_map_or, option_or}
use Rattle.schema.specs.declared.Table.{Table}
use Rattle.gtid_set.specs.Ids.{Ids, IsSet, first_ids}
use Rattle.gtid_set.specs.Numbers.{has_number}
use Rattle.scheduler.specs.Gnos.{has_gno, without}
use Rattle.store_trait.specs.Batch.{Entry}
use Rattle.record_codec.specs.declared.records.Record.{Record}
use Rattle.executor.specs.declared.Job.{Job}
use Rattle.executor.specs.declared.Outcome.{Outcome}
use Rattle.executor.specs.declared.Outcome.TheVariants as outcomes
use Rattle.executor.specs.Job.{Finished}
use Rattle.relay.specs.declared.ReplicaFault.{ReplicaFault}
use Rattle.relay.specs.declared.ReplicaFault.TheVariants.{Stopped, Stranger, Double, Memory}
use Rattle.relay.specs.declared.Received.{Received}
use Rattle.relay.specs.declared.Received.TheVariants.{Accepted, Skipped}
use Rattle.relay.specs.Relay as relay
use Rattle.replica_core.specs.Replica.{Replica, low_water, job_of}

-- new: nothing is accepted yet

abbrev pub new_over : List Table → List ℕ → List Entry → ℕ → Bool → Replica
new_over ts source base workers preserve = record {
  tables = ts;
  source = source;
  base = base;
  accepted = [];
  preserve = preserve;
  commits = [];
  published = 0;
  dispatched = 0;
  out = [];
  finished = [];
  workers = workers;
  stopped = None;
  keeps = true;
}

-- let_go: from now on committed records may go

abbrev pub letting_go : Replica → Replica
letting_go r = record r { keeps = false }

-- where the replica is stopped, every call answers so
abbrev pub stop_fault : Replica → Option ReplicaFault
stop_fault r = option_map_or (λ gno. Some (Stopped gno)) r.stopped None

-- and else this
abbrev pub unless_stopped : {T : Type 0} → Replica → T → Result T ReplicaFault
unless_stopped r answer = option_map_or (λ gno. Err (Stopped gno)) r.stopped (Ok answer)

-- receive: what its relay does with the record, however many it keeps

abbrev pub relay_of : Replica → relay.Relay
relay_of r = record { tables = r.tables; source = r.source; accepted = r.accepted; gone = 0 }

abbrev pub received : Replica → List ℕ → Record → Result Received ReplicaFault
received r from new = option_map_or (λ gno. Err (Stopped gno)) r.stopped (relay.received (relay_of r) from new)

abbrev pub with_accepted : Replica → Record → Replica
with_accepted r new = record r { accepted = r.accepted ++ new ∷ [] }

-- what each answer leaves
abbrev pub left_by_receive : Replica → Record → Received → Replica
left_by_receive r new Accepted = with_accepted r new
left_by_receive r new Skipped = r

-- dispatch: the next record in log order, once all up to its parent are committed and a worker is free; where the order of the log is
-- not kept, also only as far ahead of the low-water mark as there are places

abbrev pub is_near : Replica → Bool
is_near r = r.preserve || nat_le (r.dispatched + 1) (low_water r + 4096)

abbrev pub is_eligible : Replica → Bool
is_eligible r =
    option_map_or (λ next. nat_le next.parent (low_water r)) (slice_get r.accepted r.dispatched) false
    && nat_lt (r.dispatched - length r.commits) r.workers && is_near r

abbrev pub next_job : Replica → Option Job
next_job r = if is_eligible r then job_of r (r.dispatched + 1) else None

abbrev pub dispatched_next : Replica → Replica
dispatched_next r = record r { dispatched = r.dispatched + 1; out = r.out ++ (r.dispatched + 1) ∷ [] }

-- finish: the result of a job that was handed out, and of which none was taken

abbrev pub finish_fault : Replica → ℕ → Option ReplicaFault
finish_fault r gno =
    option_or (stop_fault r)
    (if not (nat_le 1 gno && nat_le gno r.dispatched) then Some Stranger
    else if not (has_gno r.out gno) then Some Double
    else None)

-- the result is of the job that was handed out: the record, the rows, the holders and the schema
abbrev pub IsHandedOut : Replica → Finished → Type 0
IsHandedOut r result = job_of r result.job.gno ≡ Some result.job

-- what is answered to a result of the job that was handed out: where its changes do not apply, or look at other parent rows or
-- have other marks than its record states, the replica stops
abbrev pub taken_as : Finished → Outcome → Result (Unit {0}) (ReplicaFault × Finished)
taken_as result (outcomes.Output batch) = Ok tt
taken_as result outcomes.Undefined = Err (Stopped result.job.gno, result)
taken_as result outcomes.WrongRefs = Err (Stopped result.job.gno, result)
taken_as result outcomes.Memory = Err (Memory, result)

abbrev pub with_finished : Replica → ℕ → Replica
with_finished r gno = record r { out = without gno r.out; finished = r.finished ++ gno ∷ [] }

abbrev pub stopped_at : Replica → ℕ → Replica
stopped_at r gno = record r { stopped = Some gno }

-- a refusal leaves the replica as it was, but for a stop
abbrev pub left_by_fault : Replica → ReplicaFault → Replica
left_by_fault r (Stopped gno) = stopped_at r gno
left_by_fault r _ = r

-- commit_next: in the order of the log the next record, once its result was taken; else the record whose result was taken first

abbrev pub next_commit : Replica → Option ℕ
next_commit r =
    if r.preserve then (if has_gno r.finished (length r.commits + 1) then Some (length r.commits + 1) else None) else slice_get r.finished 0

abbrev pub with_commit : Replica → ℕ → Replica
with_commit r gno = record r { commits = r.commits ++ gno ∷ []; finished = without gno r.finished }

-- publish

abbrev pub with_published : Replica → ℕ → Replica
with_published r upto = record r { published = upto }

-- executed: the ids of the committed records

abbrev pub executed_source : Replica → Option (List ℕ)
executed_source r = if length r.commits == 0 then None else Some r.source

pub record AreExecuted (r : Replica) (ids : Ids) : Type 0 where
  pub is_set : IsSet ids
  pub source : ids.source ≡ executed_source r
  pub numbers : (n : ℕ) → has_number ids.numbers n ≡ has_gno r.commits n

-- in the order of the log those from 1 to their number
abbrev pub executed_ids : Replica → Ids
executed_ids r = first_ids r.source (length r.commits)
