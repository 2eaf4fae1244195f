-- What a durable source answers to an event, and what that leaves of it.
use Rattle.std.specs.Prelude.{◌≡◌, ◌⊎◌, ℕ, ◌+◌, Bool, true, false, List, [], ◌∷◌, length, map, Option, Some, None, Ok}
use Rattle.record_codec.specs.Group.{GroupValue}
use Rattle.source_core.specs.declared.fault.SourceFault.{SourceFault}
use Rattle.source_core.specs.declared.fault.SourceFault.TheVariants.{Halted, Memory}
use Rattle.source_core.specs.Source.{Source, seen_row}
use Rattle.source_core.specs.Calls.{begin_fault, begun, write_fault, written, read_fault, prepare_fault, prepare_answer, prepared, queue_fault, queued, abort_fault, aborted}
use Rattle.source_core.specs.Calls.{ends_committed, all_committed}
use Rattle.log_file.specs.declared.fault.LogFault.{LogFault}
use Rattle.log_file.specs.Calls.{ends}
use Rattle.durable_source.specs.declared.fault.DurableFault.TheVariants.{OfLog}
use Rattle.durable_source.specs.Durable.{Durable}
use Rattle.durable_source.specs.Calls.{with_source, GroupWaits, SyncsGroup, NotSynced}
use Rattle.world.specs.declared.events.Event.{Event}
use Rattle.world.specs.declared.events.Event.TheVariants as events
use Rattle.world.specs.declared.events.Reply.{Reply}
use Rattle.world.specs.declared.events.Reply.TheVariants as replies
use Rattle.world.specs.Legal.{stamp_of}
use Rattle.world.specs.Replies.{prepared_reply}

-- the events of the source: the others are the replica's, and those that need the log's devices or its text
abbrev pub is_of_source : Event → Bool
is_of_source event = elim event [
  | events.Begin session ↦ true
  | events.Write session change ↦ true
  | events.See session id ↦ true
  | events.Prepare session ↦ true
  | events.Queue session ↦ true
  | events.Abort session ↦ true
  | events.Flush ↦ true
  | events.Sync ↦ true
  | events.Commit ↦ true
  | _ ↦ false
]

-- the source refused the call, and nothing changed
abbrev pub Refuses : {D : Type 0} → SourceFault → Durable D → Reply → Durable D → Type 0
Refuses fault old said new = (said ≡ replies.Source fault) × (new ≡ old)

-- A call that takes no memory. Its first cause refuses it; if it has none this is replied, and this source is left.
abbrev pub CallAnswers : {D : Type 0} → Option SourceFault → Reply → Source → Durable D → Reply → Durable D → Type 0
CallAnswers (Some fault) reply next old said new = Refuses fault old said new
CallAnswers None reply next old said new = (said ≡ reply) × (new ≡ with_source old next)

-- A write is answered as such a call. One that nothing refuses may lack memory.
abbrev pub WriteAnswers : {D : Type 0} → Option SourceFault → Source → Durable D → Reply → Durable D → Type 0
WriteAnswers fault next old said new = CallAnswers fault replies.Done next old said new ⊎ ((fault ≡ None) × Refuses Memory old said new)

-- A flush that told its group, which waits: the number of its first record, which is the next of the log, and the stamps of each.
pub record TellsFlushed {D : Type 0} (old : Durable D) (said : Reply) (new : Durable D) : Type 0 where
  pub told : ℕ × ℕ
  pub waits : GroupWaits old.source old.unsynced told new.source new.unsynced
  pub set : new.set ≡ old.set
  pub says : said ≡ replies.Flushed (length old.source.log + 1) (map stamp_of waits.flushes.records)

-- A halted source refuses a flush. Else there is nothing to do if none is queued; if some are, their group waits, or memory ran out.
abbrev pub FlushAnswers : {D : Type 0} → Bool → List ℕ → Durable D → Reply → Durable D → Type 0
FlushAnswers true queue old said new = Refuses Halted old said new
FlushAnswers false [] old said new = (said ≡ replies.Nothing) × (new ≡ old)
FlushAnswers false (first ∷ rest) old said new = TellsFlushed old said new ⊎ Refuses Memory old said new

-- A halted source refuses a sync. Else there is nothing to do if no group waits; if one does the oldest is on the log and synced, or the log
-- refused it.
abbrev pub SyncAnswers : {D : Type 0} → Bool → List GroupValue → Durable D → Reply → Durable D → Type 0
SyncAnswers true groups old said new = Refuses Halted old said new
SyncAnswers false [] old said new = (said ≡ replies.Nothing) × (new ≡ old)
SyncAnswers false (group ∷ groups) old said new =
    ((said ≡ replies.Synced group.first group.last) × SyncsGroup old (ends group) new) ⊎ ((fault : LogFault) × (said ≡ replies.Log fault) × NotSynced (OfLog fault) old new)

-- A halted source refuses a commit. Else there is nothing to do if all that is synced is committed; if not all of it is now, or memory ran out.
abbrev pub CommitAnswers : {D : Type 0} → Bool → Option (ℕ × ℕ) → Durable D → Reply → Durable D → Type 0
CommitAnswers true its_ends old said new = Refuses Halted old said new
CommitAnswers false None old said new = (said ≡ replies.Nothing) × (new ≡ old)
CommitAnswers false (Some its_ends) old said new =
    ((said ≡ replies.Committed its_ends.0 its_ends.1) × (new ≡ with_source old (all_committed old.source))) ⊎ Refuses Memory old said new

-- The reply to each event of the source, and what it leaves. No other event is answered.
abbrev pub Answers : {D : Type 0} → Durable D → Event → Reply → Durable D → Type 0
Answers old (events.Begin session) said new = CallAnswers (begin_fault old.source session) replies.Done (begun old.source session) old said new
Answers old (events.Write session change) said new = WriteAnswers (write_fault old.source session change) (written old.source session change) old said new
Answers old (events.See session id) said new = CallAnswers (read_fault old.source session id) (replies.Seen (seen_row old.source session id)) old.source old said new
Answers old (events.Prepare session) said new =
    CallAnswers (prepare_fault old.source session) (prepared_reply (Ok (prepare_answer old.source session))) (prepared old.source session) old said new
Answers old (events.Queue session) said new = CallAnswers (queue_fault old.source session) replies.Done (queued old.source session) old said new
Answers old (events.Abort session) said new = CallAnswers (abort_fault old.source session) replies.Done (aborted old.source session) old said new
Answers old events.Flush said new = FlushAnswers old.source.halted old.source.queue old said new
Answers old events.Sync said new = SyncAnswers old.source.halted old.unsynced old said new
Answers old events.Commit said new = CommitAnswers old.source.halted (ends_committed old.source) old said new
Answers old event said new = ⊥
