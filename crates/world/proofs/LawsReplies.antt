-- What a reply says of the state that allows it.
use Rattle.std.proofs.Common.{◌≡◌, ◌∙◌, sym, ap, subst, refl, ℕ, ◌+◌, ◌<◌, ◌≤◌, Bool, true, false, not, ◌&&◌, ◌||◌, ◌==◌, nat_le, List, [], ◌∷◌}
use Rattle.std.proofs.Common.{length, map, Option, Some, None, Ok, ◌⊎◌, inl, inr, if◌then◌else◌}
use Rattle.std.specs.Prelude.{option_and_then, slice_get, ◌-◌}
use Rattle.std.specs.Option.{option_map_or}
use Rattle.std.specs.FinMap.{get}
use Rattle.std.proofs.lemmas.Bool.{false≢true, or_cases, or_left, or_right, and_parts, leb-true, eqb-true, ltb-true}
use Rattle.schema.specs.declared.RowId.{RowId}
use Rattle.gtid_set.specs.Ids.{first_ids}
use Rattle.store_trait.specs.Operation.{loaded}
use Rattle.scheduler.specs.Gnos.{low_of}
use Rattle.gapped.specs.Gapped.{gapped}
use Rattle.replica_core.specs.Calls.{next_commit}
use Rattle.record_codec.specs.declared.records.Record.{Record}
use Rattle.source_core.specs.declared.fault.SourceFault.{SourceFault}
use Rattle.source_core.specs.declared.fault.SourceFault.TheVariants as source
use Rattle.log_file.specs.declared.fault.LogFault.TheVariants as log_file
use Rattle.source_core.specs.Source.{seen_row}
use Rattle.source_core.specs.Calls.{begin_fault, write_fault, read_fault, prepare_fault, prepare_answer, queue_fault, abort_fault, halted_fault}
use Rattle.source_core.specs.declared.transaction.Prepared.{Prepared as Answer}
use Rattle.source_core.specs.declared.transaction.Prepared.TheVariants as answers
use Rattle.relay.specs.declared.ReplicaFault.TheVariants as replica
use Rattle.world.specs.declared.events.Event.{Event}
use Rattle.world.specs.declared.events.Event.TheVariants as events
use Rattle.world.specs.declared.events.Reply.{Reply}
use Rattle.world.specs.declared.events.Reply.TheVariants as replies
use Rattle.world.specs.Replies.{prepared_reply}
use Rattle.world.specs.Laws.{is_memory}
use Rattle.world.proofs.Finish.{IsNext, is_next, next_at}
use Rattle.world.specs.Pair.{Pair, busy, replica_committed, low_water, published_gnos}
use Rattle.world.specs.Legal.{Setup, rows_after, source_at, replica_at, refused_or, stamp_of, next_records, FlushAnswers, SyncAnswers, RotateAnswers, is_full}
use Rattle.world.specs.Legal.{commit_reply, log_text, is_due, may_dispatch, is_out, next_reply}
use Rattle.world.specs.Legal.{ExecutedAnswers, read_reply, Answers, is_source_memory, is_replica_memory, is_codec_memory, is_log_memory, asks_memory, tells_memory, Allowed}

-- a job that is handed out is the next, of a record that is accepted, and its parent is committed: in the order of the log it is one
-- of the commits so far, in any order all up to it are committed
pub record IsJob (setup : Setup) (log : List Record) (pair : Pair) (gno : ℕ) : Type 0 where
  pub number : gno ≡ pair.dispatched + 1
  pub within : pair.dispatched < pair.accepted
  pub in_order : setup.preserve ≡ true → (rec : Record) → slice_get log pair.dispatched ≡ Some rec → rec.parent ≤ replica_committed pair
  pub in_any : setup.preserve ≡ false → (rec : Record) → slice_get log pair.dispatched ≡ Some rec → rec.parent ≤ low_water pair

-- what a reply says of the state before it
abbrev pub Says : Setup → List Record → Pair → Event → Reply → Type 0
Says setup log pair event (replies.Flushed first stamps) = (first ≡ pair.flushed + 1) × (stamps ≡ map stamp_of (next_records log pair)) × (event ≡ events.Flush)
Says setup log pair event (replies.Synced first last) = (groups : List (ℕ × ℕ)) × (pair.unsynced ≡ (first, last) ∷ groups)
Says setup log pair event (replies.Committed first last) = (first ≡ pair.source_committed + 1) × (last ≡ pair.synced)
Says setup log pair event replies.Accepted = (gno : ℕ) × (event ≡ events.Deliver gno) × (gno ≤ pair.synced) × (gno ≡ pair.accepted + 1)
Says setup log pair event (replies.Job gno) = IsJob setup log pair gno
Says setup log pair event (replies.Finished gno) = is_out pair gno ≡ true
Says setup log pair event (replies.Commit gno) = IsNext (replica_at setup log pair) gno
Says setup log pair event (replies.Published upto) = upto ≡ replica_committed pair
Says setup log pair event (replies.Read upto more row) = (id : RowId) × (event ≡ events.Read id) × (replies.Read upto more row ≡ read_reply setup log pair id)
Says setup log pair event (replies.Replica fault) = (fault ≡ replica.Memory) ⊎ ((fault ≡ replica.Gap) × (gno : ℕ) × (event ≡ events.Deliver gno))
Says setup log pair event reply = Unit {0}

-- ---- want of memory

pub telling_says : (event : Event) (reply : Reply) → tells_memory event reply ≡ true → is_memory reply ≡ true
telling_says event reply h = by event h where
  of_source : is_source_memory reply ≡ true → is_memory reply ≡ true
  of_source s = or_left _ (is_log_memory reply) (or_left _ (is_codec_memory reply) (or_left _ (is_replica_memory reply) s))

  of_replica : is_replica_memory reply ≡ true → is_memory reply ≡ true
  of_replica r = or_left _ (is_log_memory reply) (or_left _ (is_codec_memory reply) (or_right (is_source_memory reply) _ r))

  of_log : is_log_memory reply ≡ true → is_memory reply ≡ true
  of_log l = or_right (is_source_memory reply || is_replica_memory reply || is_codec_memory reply) _ l

  by : (e : Event) → tells_memory e reply ≡ true → is_memory reply ≡ true
  by (events.Write session change) k = of_source k
  by events.Flush k = of_source k
  by events.Sync k = of_log k
  by events.Commit k = of_source k
  by (events.Deliver gno) k = elim (or_cases (is_replica_memory reply) (is_codec_memory reply) k) [
    | inl r ↦ of_replica r
    | inr c ↦ or_left _ (is_log_memory reply) (or_right (is_source_memory reply || is_replica_memory reply) _ c)
  ]
  by events.Dispatch k = of_replica k
  by (events.Finish gno) k = of_replica k
  by events.Next k = of_replica k
  by events.Publish k = of_replica k
  by events.Executed k = of_replica k
  by events.Rotate k = of_log k
  by events.Log k = of_log k
  by e k = absurd (false≢true k)

telling : (setup : Setup) (log : List Record) (pair : Pair) (event : Event) (reply : Reply) → is_memory reply ≡ true → Says setup log pair event reply
telling setup log pair event (replies.Source fault) h = tt
telling setup log pair event (replies.Codec fault) h = tt
telling setup log pair event (replies.Log fault) h = tt
telling setup log pair event (replies.Replica fault) h =
    elim fault as (λ f. is_memory (replies.Replica f) ≡ true → Says setup log pair event (replies.Replica f)) [
      | replica.Memory ↦ λ _. inl refl
      | _ ↦ λ k. absurd (false≢true k)
    ] h
telling setup log pair event reply h = absurd (false≢true h)

-- ---- each event

module _ (setup : Setup) (log : List Record) (pair : Pair) where
  by : (event : Event) (reply answer : Reply) → reply ≡ answer → Says setup log pair event answer → Says setup log pair event reply
  by event reply answer is says = subst (Says setup log pair event) (sym is) says

  refused_says : (event : Event) (fault : Option SourceFault) (reply : Reply) → Says setup log pair event reply → Says setup log pair event (refused_or fault reply)
  refused_says event None reply says = says
  refused_says event (Some fault) reply says = tt

  prepare_says : (event : Event) (answer : Answer) → Says setup log pair event (prepared_reply (Ok answer))
  prepare_says event (answers.Parent parent) = tt
  prepare_says event answers.Empty = tt

  flush_says : (halts : Bool) (waiting : List ℕ) (reply : Reply) → FlushAnswers setup log pair halts waiting reply → Says setup log pair events.Flush reply
  flush_says true waiting reply h = by events.Flush reply (replies.Source source.Halted) h tt
  flush_says false [] reply h = by events.Flush reply replies.Nothing h tt
  flush_says false (session ∷ waiting) reply h = by events.Flush reply _ h.0 (refl, refl, refl)

  sync_says : (halts : Bool) (groups : List (ℕ × ℕ)) (reply : Reply) → pair.unsynced ≡ groups → SyncAnswers halts groups reply → Says setup log pair events.Sync reply
  sync_says true groups reply e h = by events.Sync reply (replies.Source source.Halted) h tt
  sync_says false [] reply e h = by events.Sync reply replies.Nothing h tt
  sync_says false (group ∷ groups) reply e h =
      elim h [
        | inl put ↦ by events.Sync reply (replies.Synced group.0 group.1) put (groups, e)
        | inr failed ↦ by events.Sync reply (replies.Log log_file.Device) failed tt
      ]

  rotate_says : (halts busies full : Bool) (files : ℕ) (reply : Reply) → RotateAnswers halts busies full files reply → Says setup log pair events.Rotate reply
  rotate_says true busies full files reply h = by events.Rotate reply (replies.Source source.Halted) h tt
  rotate_says false true full files reply h = by events.Rotate reply replies.Busy h tt
  rotate_says false false true files reply h = by events.Rotate reply replies.NoDevice h tt
  rotate_says false false false files reply h =
      elim h [
        | inl made ↦ by events.Rotate reply (replies.Rotated (files + 1)) made tt
        | inr failed ↦ by events.Rotate reply (replies.Log log_file.Device) failed tt
      ]

  commit_says : (all : Bool) → Says setup log pair events.Commit
      (if all then replies.Nothing else replies.Committed (pair.source_committed + 1) pair.synced)
  commit_says true = tt
  commit_says false = (refl, refl)

  -- only the next record is accepted, once it is synced, and only a gap is refused
  deliver_says : (gno : ℕ) (is_synced_ old next : Bool) → (is_synced_ ≡ true → gno ≤ pair.synced) → (next ≡ true → gno ≡ pair.accepted + 1) →
      Says setup log pair (events.Deliver gno) (if not is_synced_ then replies.Unsynced else if old then replies.Skipped else if next then replies.Accepted else replies.Replica replica.Gap)
  deliver_says gno false old next within is = tt
  deliver_says gno true true next within is = tt
  deliver_says gno true false true within is = (gno, refl, within refl, is refl)
  deliver_says gno true false false within is = inr (refl, gno, refl)

  -- a record that is due is accepted, and its parent is at most the mark
  due_tells : (mark : ℕ) → is_due setup log pair mark ≡ true → (pair.dispatched < pair.accepted) × ((rec : Record) → slice_get log pair.dispatched ≡ Some rec → rec.parent ≤ mark)
  due_tells mark t =
      let parts = and_parts _ _ (and_parts _ _ t).0 in (
        ltb-true pair.dispatched pair.accepted parts.0,
        λ rec got. leb-true rec.parent mark (sym (ap (λ (o : Option Record). option_map_or (λ next. nat_le next.parent mark) o false) got) ∙ parts.1),
      )

  is_job : may_dispatch setup log pair ≡ true → IsJob setup log pair (pair.dispatched + 1)
  is_job t = by setup.preserve refl t where
    by : (b : Bool) → setup.preserve ≡ b →
        (if b then is_due setup log pair (replica_committed pair) else is_due setup log pair (low_water pair) && nat_le (pair.dispatched + 1) (low_water pair + 4096)) ≡ true →
        IsJob setup log pair (pair.dispatched + 1)
    by true e due =
        let tells = due_tells (replica_committed pair) due in
        record { number = refl; within = tells.0; in_order = λ _. tells.1; in_any = λ other. absurd (false≢true (sym other ∙ e)) }
    by false e due =
        let tells = due_tells (low_water pair) (and_parts _ _ due).0 in
        record { number = refl; within = tells.0; in_order = λ other. absurd (false≢true (sym e ∙ other)); in_any = λ _. tells.1 }

  dispatch_says : (may : Bool) → may_dispatch setup log pair ≡ may → Says setup log pair events.Dispatch (if may then replies.Job (pair.dispatched + 1) else replies.Nothing)
  dispatch_says false e = tt
  dispatch_says true e = is_job e

  finish_says : (gno : ℕ) (out_ : Bool) → is_out pair gno ≡ out_ → Says setup log pair (events.Finish gno) (if out_ then replies.Finished gno else replies.Nothing)
  finish_says gno false e = tt
  finish_says gno true e = e

  next_says : (reply : Reply) → reply ≡ next_reply setup pair → Says setup log pair events.Next reply
  next_says reply h = of_next (next_commit (replica_at setup log pair)) refl (h ∙ next_at setup log pair) where
    of_next : (o : Option ℕ) → next_commit (replica_at setup log pair) ≡ o → reply ≡ option_map_or replies.Commit (next_commit (replica_at setup log pair)) replies.Nothing →
        Says setup log pair events.Next reply
    of_next None e k = by events.Next reply replies.Nothing (k ∙ ap (λ (o : Option ℕ). option_map_or replies.Commit o replies.Nothing) e) tt
    of_next (Some gno) e k = by events.Next reply (replies.Commit gno) (k ∙ ap (λ (o : Option ℕ). option_map_or replies.Commit o replies.Nothing) e)
        (is_next (replica_at setup log pair) gno e)

  executed_says : (b : Bool) (reply : Reply) → ExecutedAnswers b setup pair reply → Says setup log pair events.Executed reply
  executed_says true reply h = by events.Executed reply (replies.Executed (first_ids setup.identifier (replica_committed pair))) h tt
  executed_says false reply h = by events.Executed reply (replies.Executed h.0) h.1 tt

  read_says : (id : RowId) (reply : Reply) → reply ≡ read_reply setup log pair id → Says setup log pair (events.Read id) reply
  read_says id reply h = by (events.Read id) reply (read_reply setup log pair id) h (told setup.preserve refl) where
    gnos : List ℕ
    gnos = published_gnos pair

    first : Reply
    first = replies.Read pair.published 0 (option_and_then (λ db. get db id) (rows_after setup log pair.published))

    any : Reply
    any = replies.Read (low_of gnos) (pair.published - low_of gnos) (option_and_then (λ db. get db id) (gapped setup.tables (loaded setup.base) log gnos))

    told : (b : Bool) → setup.preserve ≡ b → Says setup log pair (events.Read id) (if b then first else any)
    told true e = (id, refl, sym (ap (λ (b : Bool). if b then first else any) e))
    told false e = (id, refl, sym (ap (λ (b : Bool). if b then first else any) e))

  answers_say : (event : Event) (reply : Reply) → Answers setup log pair event reply → Says setup log pair event reply
  answers_say (events.Begin session) reply h = by _ reply _ h (refused_says _ (begin_fault (source_at setup log pair) session) replies.Done tt)
  answers_say (events.Write session change) reply h = by _ reply _ h (refused_says _ (write_fault (source_at setup log pair) session change) replies.Done tt)
  answers_say (events.See session id) reply h = by _ reply _ h (refused_says _ (read_fault (source_at setup log pair) session id) (replies.Seen (seen_row (source_at setup log pair) session id)) tt)
  answers_say (events.Prepare session) reply h =
      by _ reply _ h (refused_says _ (prepare_fault (source_at setup log pair) session) _
      (prepare_says _ (prepare_answer (source_at setup log pair) session)))
  answers_say (events.Queue session) reply h = by _ reply _ h (refused_says _ (queue_fault (source_at setup log pair) session) replies.Done tt)
  answers_say (events.Abort session) reply h = by _ reply _ h (refused_says _ (abort_fault (source_at setup log pair) session) replies.Done tt)
  answers_say events.Flush reply h = flush_says pair.halted pair.queue reply h
  answers_say events.Sync reply h = sync_says pair.halted pair.unsynced reply refl h
  answers_say events.Commit reply h = by _ reply _ h
      (refused_says _ (halted_fault (source_at setup log pair)) (commit_reply pair) (commit_says (pair.source_committed == pair.synced)))
  answers_say (events.Deliver gno) reply h =
      by _ reply _ h (deliver_says gno (nat_le 1 gno && nat_le gno pair.synced) (nat_le gno pair.accepted) (gno == pair.accepted + 1)
      (λ t. leb-true gno pair.synced (and_parts _ _ t).1) (eqb-true gno (pair.accepted + 1)))
  answers_say events.Dispatch reply h = by _ reply _ h (dispatch_says (may_dispatch setup log pair) refl)
  answers_say (events.Finish gno) reply h = by _ reply _ h (finish_says gno (is_out pair gno) refl)
  answers_say events.Next reply h = next_says reply h
  answers_say events.Publish reply h = by _ reply _ h refl
  answers_say events.Executed reply h = executed_says setup.preserve reply h
  answers_say (events.Read id) reply h = read_says id reply h
  answers_say events.Rotate reply h = rotate_says pair.halted (busy pair) (is_full pair) (length pair.firsts) reply h
  answers_say events.Log reply h = by _ reply (replies.Text (log_text setup log pair)) h tt

  pub says : (event : Event) (reply : Reply) → Allowed setup log pair event reply → Says setup log pair event reply
  says event reply allowed =
      elim allowed [
        | inl lacks ↦ telling setup log pair event reply (telling_says event reply (and_parts (asks_memory setup log pair event) (tells_memory event reply) lacks).1)
        | inr answers ↦ answers_say event reply answers
      ]
