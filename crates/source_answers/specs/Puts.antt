-- What a put of a session's transaction says, and what it leaves.
use Rattle.std.specs.Prelude.{◌≡◌, ◌⊎◌, ℕ, ◌-◌, ◌≤◌, Bool, true, false, not, ◌||◌, ◌==◌, IsTrue, MatchBool, if◌then◌else◌, List, [], ◌∷◌, reverse, replicate, slice_get, Option, Some, None}
use Rattle.std.specs.List.{find}
use Rattle.record_codec.specs.declared.records.Record.{Record}
use Rattle.source_core.specs.declared.fault.SourceFault.{SourceFault}
use Rattle.source_core.specs.declared.fault.SourceFault.TheVariants as faults
use Rattle.source_core.specs.declared.transaction.Receipt.{Receipt as Given}
use Rattle.source_core.specs.Source.{Source, open_of, changes_of}
use Rattle.source_core.specs.Calls.{is_active, is_prepared, receipts, all_committed}
use Rattle.durable_source.specs.Durable.{Durable}
use Rattle.durable_source.specs.Calls.{with_source}
use Rattle.world.specs.declared.events.Event.{Event}
use Rattle.world.specs.declared.events.Event.TheVariants as events
use Rattle.world.specs.declared.events.Reply.{Reply}
use Rattle.world.specs.declared.events.Reply.TheVariants as replies
use Rattle.source_answers.specs.declared.putting.PutReply.{PutReply}
use Rattle.source_answers.specs.declared.putting.PutReply.TheVariants.{Receipt, Refused}
use Rattle.source_answers.specs.Answers.{Answers}

-- the refusals by which a step tells that the session's transaction is past it, or that there is none
abbrev pub is_past : SourceFault → Bool
is_past fault = elim fault [ faults.NotActive ↦ true | faults.NotPrepared ↦ true | _ ↦ false ]

-- The reply to a step ends a put: that the transaction had no changes, and each refusal but those.
abbrev pub is_end : Reply → Bool
is_end reply = elim reply [ replies.Empty ↦ true | replies.Source fault ↦ not (is_past fault) | replies.Log fault ↦ true | _ ↦ false ]

abbrev pub ended_by : Reply → Option Reply
ended_by reply = if is_end reply then Some reply else None

-- These events are answered one after another, up to the first reply that ends a put. It is told, and if there is none, none is.
abbrev pub Walks : {D : Type 0} → List Event → Durable D → Option Reply → Durable D → Type 0
Walks [] old told new = (told ≡ None) × (new ≡ old)
Walks {D} (event ∷ later) old told new =
    (said : Reply) × (next : Durable D) × Answers old event said next × MatchBool (is_end said) ((told ≡ Some said) × (new ≡ next)) (Walks later next told new)

-- the steps of a put before its commit, with so many syncs
abbrev pub steps_of : ℕ → ℕ → List Event
steps_of session syncs = events.Prepare session ∷ events.Queue session ∷ events.Flush ∷ replicate syncs events.Sync

-- Of the receipts that a commit gives the session's: the last one that is of it.
abbrev pub receipt_for : Source → ℕ → Option Given
receipt_for s session = find (λ r. r.session == session) (reverse (receipts s))

-- what is said by it; if there is none the session had no transaction
abbrev pub said_by : Option Given → PutReply
said_by None = Refused (replies.Source faults.NotActive)
said_by (Some given) = Receipt given.gno given.sequence given.parent

-- The commit ends it by a refusal; else it is said by the session's receipt.
abbrev pub CommitSays : {D : Type 0} → ℕ → Durable D → PutReply → Durable D → Type 0
CommitSays session old said new =
    ((reply : Reply) × Answers old events.Commit reply new × IsTrue (is_end reply) × (said ≡ Refused reply))
    ⊎ ((said ≡ said_by (receipt_for old.source session)) × (new ≡ with_source old (all_committed old.source)))

-- by what the steps before the commit told
abbrev pub Says : {D : Type 0} → ℕ → Option Reply → Durable D → PutReply → Durable D → Type 0
Says session (Some reply) before said new = (said ≡ Refused reply) × (new ≡ before)
Says session None before said new = (before.unsynced ≡ []) × CommitSays session before said new

-- A put: the steps in order, each answered as its event is, until one ends it; then the commit, once no group waits.
pub record Puts {D : Type 0} (session : ℕ) (old : Durable D) (said : PutReply) (new : Durable D) : Type 0 where
  pub syncs : ℕ
  pub told : Option Reply
  pub before : Durable D
  pub walks : Walks (steps_of session syncs) old told before
  pub says : Says session told before said new

-- ---- what a receipt promises

-- the session's transaction is not queued yet, and has not ended
abbrev pub is_unqueued : Source → ℕ → Bool
is_unqueued s session = is_active (open_of s session) || is_prepared (open_of s session)

-- The record of this number is on the log, at its place, with these stamps; it is the session's, and committed. If the put queued the
-- transaction it has its changes.
pub record IsOnLog {D : Type 0} (session : ℕ) (old : Durable D) (gno sequence parent : ℕ) (new : Durable D) : Type 0 where
  pub made : Record
  pub there : slice_get new.set.log.records (gno - 1) ≡ Some made
  pub gno_is : made.gno ≡ gno
  pub sequence_is : made.sequence ≡ sequence
  pub parent_is : made.parent ≡ parent
  pub owner : slice_get new.source.owners (gno - 1) ≡ Some session
  pub least : 1 ≤ gno
  pub committed : gno ≤ new.source.committed
  pub changes : IsTrue (is_unqueued old.source session) → made.changes ≡ changes_of old.source session

-- So each receipt is told.
abbrev pub ToldIsOnLog : {D : Type 0} → ℕ → Durable D → PutReply → Durable D → Type 0
ToldIsOnLog session old (Receipt gno sequence parent) new = IsOnLog session old gno sequence parent new
ToldIsOnLog session old (Refused reply) new = Unit {0}
