-- The pair as one machine: what the source, its log, the replica and its readers have come to. An event and its reply lead from one state
-- to the next. Which records are in the log the machine does not say: it counts them, and `Legal.antt` has one legal log beside it.
use Rattle.std.specs.Prelude.{ℕ, ◌+◌, Bool, true, false, ◌&&◌, ◌||◌, ◌==◌, nat_lt, if◌then◌else◌, List, [], ◌∷◌, ◌++◌, length, map, take, drop, Option, Some, None}
use Rattle.std.specs.List.{range_with_len}
use Rattle.std.specs.Option.{option_map}
use Rattle.scheduler.specs.Gnos.{low_of, without}
use Rattle.source_core.specs.declared.transaction.Phase.TheVariants.{Active, Prepared}
use Rattle.source_core.specs.Source.{Open}
use Rattle.source_core.specs.Calls.{flushed_open, queued_phase, is_flushed_by}
use Rattle.log_file.specs.declared.fault.LogFault.{LogFault}
use Rattle.log_file.specs.declared.fault.LogFault.TheVariants as log_file
use Rattle.world.specs.declared.events.Event.{Event}
use Rattle.world.specs.declared.events.Event.TheVariants as events
use Rattle.world.specs.declared.events.Reply.{Reply}
use Rattle.world.specs.declared.events.Reply.TheVariants as replies

pub record Pair : Type 0 where
  -- The source: how many records are flushed, and how many of these are committed; the session of each record flushed, in log order; the
  -- sessions whose transactions are queued, in order; and each session's open transaction, with the changes that it wrote since its begin.
  pub flushed : ℕ
  pub source_committed : ℕ
  pub owners : List ℕ
  pub queue : List ℕ
  pub transaction : ℕ → Option Open
  -- The log: how many records are synced; the groups that are synced, and those that are flushed and not synced, the oldest first, each by
  -- the numbers of its first and last record; the gno that each file begins with, and how many groups are in the files before it; and
  -- whether the source is halted, since a device of the log failed in a sync or a rotation.
  pub synced : ℕ
  pub synced_groups : List (ℕ × ℕ)
  pub unsynced : List (ℕ × ℕ)
  pub firsts : List ℕ
  pub starts : List ℕ
  pub halted : Bool
  -- The replica: how many records are accepted, and how many of these are dispatched to workers; the gnos of the jobs that are handed out
  -- and not finished, and of those that are finished and not committed, in the order in which they came to be so; and the gnos of the
  -- commits, in their order.
  pub accepted : ℕ
  pub dispatched : ℕ
  pub out : List ℕ
  pub finished : List ℕ
  pub commits : List ℕ
  -- the readers: how many commits are published
  pub published : ℕ

-- nothing was done yet: the log is one empty file
abbrev pub new_pair : Pair
new_pair = record {
  flushed = 0;
  source_committed = 0;
  owners = [];
  queue = [];
  transaction = λ session. None;
  synced = 0;
  synced_groups = [];
  unsynced = [];
  firsts = 1 ∷ [];
  starts = 0 ∷ [];
  halted = false;
  accepted = 0;
  dispatched = 0;
  out = [];
  finished = [];
  commits = [];
  published = 0;
}

-- ---- the next state

abbrev pub is_device : LogFault → Bool
is_device fault = elim fault [ log_file.Device ↦ true | _ ↦ false ]

-- what a reply says, whichever event has it
abbrev pub told : Pair → Reply → Pair
told pair reply = elim reply [
  | replies.Flushed first stamps ↦
      let last = pair.flushed + length stamps in
      record pair { flushed = last; owners = pair.owners ++ pair.queue; unsynced = pair.unsynced ++ (first, last) ∷ [] }
  | replies.Synced first last ↦ record pair { synced = last; synced_groups = pair.synced_groups ++ (first, last) ∷ []; unsynced = drop 1 pair.unsynced }
  | replies.Rotated number ↦ record pair { firsts = pair.firsts ++ (pair.synced + 1) ∷ []; starts = pair.starts ++ length pair.synced_groups ∷ [] }
  | replies.Log fault ↦ record pair { halted = is_device fault || pair.halted }
  | replies.Committed first last ↦ record pair { source_committed = last }
  | replies.Accepted ↦ record pair { accepted = pair.accepted + 1 }
  | replies.Job gno ↦ record pair { dispatched = pair.dispatched + 1; out = pair.out ++ gno ∷ [] }
  | replies.Finished gno ↦ record pair { out = without gno pair.out; finished = pair.finished ++ gno ∷ [] }
  | replies.Commit gno ↦ record pair { finished = without gno pair.finished; commits = pair.commits ++ gno ∷ [] }
  | replies.Published upto ↦ record pair { published = upto }
  | _ ↦ pair
]

abbrev pub is_done : Reply → Bool
is_done reply = elim reply [ replies.Done ↦ true | _ ↦ false ]

-- the queue: a session's call that is done puts it there, and a flush takes all
abbrev pub queue_after : Pair → Event → Reply → List ℕ
queue_after pair event reply = elim event [
  | events.Queue session ↦ if is_done reply then pair.queue ++ session ∷ [] else pair.queue
  | events.Flush ↦ (elim reply [ replies.Flushed first stamps ↦ [] | _ ↦ pair.queue ])
  | _ ↦ pair.queue
]

-- a session's transaction, which was this before
abbrev pub transaction_after : Pair → ℕ → Event → Reply → Option Open → Option Open
transaction_after pair session event reply now = elim event [
  | events.Begin number ↦ if is_done reply && number == session then Some (record { changes = []; phase = Active }) else now
  | events.Write number change ↦
      if is_done reply && number == session then option_map (λ t. record { changes = t.changes ++ change ∷ []; phase = t.phase }) now else now
  | events.Prepare number ↦ (elim reply [
    | replies.Prepared parent ↦ if number == session then option_map (λ t. record { changes = t.changes; phase = Prepared parent }) now else now
    | replies.Empty ↦ if number == session then None else now
    | _ ↦ now
  ])
  | events.Queue number ↦
      if is_done reply && number == session then option_map (λ t. record { changes = t.changes; phase = queued_phase t.phase }) now else now
  | events.Abort number ↦ if is_done reply && number == session then None else now
  | events.Flush ↦ (elim reply [ replies.Flushed first stamps ↦ flushed_open (pair.flushed + 1) pair.queue session now | _ ↦ now ])
  | events.Commit ↦ (elim reply [ replies.Committed first last ↦ if is_flushed_by last now then None else now | _ ↦ now ])
  | _ ↦ now
]

-- the state behind an event and its reply: what the reply says, and what became of the sessions
abbrev pub next : Pair → Event → Reply → Pair
next pair event reply =
    record (told pair reply) { queue = queue_after pair event reply; transaction = λ session. transaction_after pair session event reply (pair.transaction session) }

-- behind events and their replies
abbrev pub pair_after : Pair → List Event → List Reply → Pair
pair_after pair [] replies_ = pair
pair_after pair (event ∷ events_) [] = pair
pair_after pair (event ∷ events_) (reply ∷ replies_) = pair_after (next pair event reply) events_ replies_

-- a run's state behind its first n events
abbrev pub pair_at : List Event → List Reply → ℕ → Pair
pair_at events_ replies_ n = pair_after new_pair (take n events_) (take n replies_)

-- ---- what follows from a state

-- whether a flushed transaction is not committed yet
abbrev pub busy : Pair → Bool
busy pair = nat_lt pair.source_committed pair.flushed

-- the open transaction of each of the 256 sessions, session 1 first
unfoldable pub transactions : (ℕ → Option Open) → List (Option Open)
transactions transaction = map transaction (range_with_len 1 256)

-- the number of records committed at the replica
abbrev pub replica_committed : Pair → ℕ
replica_committed pair = length pair.commits

-- the low-water mark at the replica: all records up to it are committed there, and the next is not
abbrev pub low_water : Pair → ℕ
low_water pair = low_of pair.commits

-- the gnos of the published commits: of all commits the first so many
abbrev pub published_gnos : Pair → List ℕ
published_gnos pair = take pair.published pair.commits

-- a reply that a device of the log failed
abbrev pub is_failure : Reply → Bool
is_failure reply = elim reply [ replies.Log fault ↦ is_device fault | _ ↦ false ]
