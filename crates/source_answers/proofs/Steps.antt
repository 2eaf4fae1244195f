-- The steps of a put, one after another, and what its receipt promises.
use Rattle.std.proofs.Common.{◌≡◌, ◌∙◌, sym, ap, subst, refl, ℕ, zero, suc, ◌+◌, ◌-◌, ◌<◌, Bool, true, false, not, List, [], ◌∷◌, ◌++◌, length, drop, replicate, Option, Some, None, Ok, inl}
use Rattle.std.proofs.Common.{inr, arith, append_assoc, nat_le}
use Rattle.std.specs.Prelude.{slice_get, MatchBool, if◌then◌else◌, IsTrue, ◌||◌}
use Rattle.std.specs.Option.{option_map, option_map_or}
use Rattle.std.proofs.lemmas.Bool.{false≢true, true≢false, not-false, or_cases, and_parts, leb-true, both_ways}
use Rattle.std.proofs.lemmas.Option.{none-some, same_Some}
use Rattle.std.proofs.lemmas.List.{get_or-set_same, length-drop}
use Rattle.schema.proofs.Lists.{get_before}
use Rattle.rows.specs.declared.Change.{Change}
use Rattle.log_index.specs.declared.Entry.{Entry as Seen}
use Rattle.record_codec.specs.declared.records.Record.{Record}
use Rattle.record_codec.specs.Group.{GroupValue, Hold}
use Rattle.source_core.specs.declared.fault.SourceFault.{SourceFault}
use Rattle.source_core.specs.declared.fault.SourceFault.TheVariants.{Halted, NoSession, NotActive, NotPrepared, Exhausted}
use Rattle.source_core.specs.declared.transaction.Phase.TheVariants.{Prepared}
use Rattle.source_core.specs.declared.transaction.Prepared.TheVariants.{Empty, Parent}
use Rattle.source_core.specs.declared.transaction.Receipt.{Receipt as Given}
use Rattle.source_core.specs.Source.{Source, Open, IsSound, is_session, open_of, changes_of, entry_of}
use Rattle.source_core.specs.Calls.{cause, session_fault, with_open, is_active, is_prepared, is_empty_list, prepare_fault, prepare_answer, prepared, queue_fault, queued, queued_phase}
use Rattle.source_core.specs.Calls.{seen_log, AreNextRecords, IsNextRecord, all_committed}
use Rattle.source_core.proofs.Write.Causes.{no_cause, it_is}
use Rattle.durable_source.specs.Durable.{Durable, HasLog}
use Rattle.durable_source.specs.Calls.{with_source}
use Rattle.world.specs.declared.events.Event.{Event}
use Rattle.world.specs.declared.events.Event.TheVariants as events
use Rattle.world.specs.declared.events.Reply.{Reply}
use Rattle.world.specs.declared.events.Reply.TheVariants as replies
use Rattle.world.specs.Replies.{prepared_reply}
use Rattle.source_answers.specs.Answers.{CallAnswers, FlushAnswers, SyncAnswers, TellsFlushed, Answers}
use Rattle.source_answers.specs.Puts.{is_past, is_end, ended_by, Walks, steps_of, receipt_for, said_by, is_unqueued, IsOnLog, ToldIsOnLog}
use Rattle.source_answers.proofs.Receipts.{EndsWith, found_logged, last_found}

-- ---- steps

pub one_step : {D : Type 0} (old next : Durable D) (event : Event) (said : Reply) (told : Option Reply) → Answers old event said next → told ≡ ended_by said → Walks (event ∷ []) old told next
one_step {D} old next event said told answers is = (said, next, answers, by (is_end said) refl)
  where
    by : (b : Bool) → is_end said ≡ b → MatchBool b ((told ≡ Some said) × (next ≡ next)) ((told ≡ None) × (next ≡ next))
    by true e = (is ∙ ap (λ b. if b then Some said else None) e, refl)
    by false e = (is ∙ ap (λ b. if b then Some said else None) e, refl)

-- after steps that ended nothing others may be made,
pub then_more : {D : Type 0} (steps more : List Event) (old mid : Durable D) (told : Option Reply) (new : Durable D) → Walks steps old None mid → Walks more mid told new →
    Walks (steps ++ more) old told new
then_more [] more old mid told new w later = subst (λ x. Walks more x told new) w.1 later
then_more {D} (event ∷ steps) more old mid told new w later = (w.0, w.1, w.2, by (is_end w.0) w.3 (λ rest. then_more steps more w.1 mid told new rest later))
  where
    by : (b : Bool) → MatchBool b ((None ≡ Some w.0) × (mid ≡ w.1)) (Walks steps w.1 None mid) → (Walks steps w.1 None mid → Walks (steps ++ more) w.1 told new) →
        MatchBool b ((told ≡ Some w.0) × (new ≡ w.1)) (Walks (steps ++ more) w.1 told new)
    by true ended go = absurd (none-some w.0 ended.0)
    by false rest go = go rest

-- and after one that ended them none is
pub then_none : {D : Type 0} (steps more : List Event) (old : Durable D) (told : Option Reply) (reply : Reply) (new : Durable D) → told ≡ Some reply → Walks steps old told new →
    Walks (steps ++ more) old told new
then_none [] more old told reply new is w = absurd (none-some reply (sym w.0 ∙ is))
then_none {D} (event ∷ steps) more old told reply new is w = (w.0, w.1, w.2, by (is_end w.0) w.3 (λ rest. then_none steps more w.1 told reply new is rest))
  where
    by : (b : Bool) → MatchBool b ((told ≡ Some w.0) × (new ≡ w.1)) (Walks steps w.1 told new) → (Walks steps w.1 told new → Walks (steps ++ more) w.1 told new) →
        MatchBool b ((told ≡ Some w.0) × (new ≡ w.1)) (Walks (steps ++ more) w.1 told new)
    by true ended go = ended
    by false rest go = go rest

-- the first of steps that ended nothing
record GoesOn {D : Type 0} (event : Event) (later : List Event) (old new : Durable D) : Type 0 where
  said : Reply
  next : Durable D
  answers : Answers old event said next
  goes : is_end said ≡ false
  rest : Walks later next None new

goes_on : {D : Type 0} (event : Event) (later : List Event) (old new : Durable D) → Walks (event ∷ later) old None new → GoesOn event later old new
goes_on {D} event later old new w = by (is_end w.0) refl w.3
  where
    by : (b : Bool) → is_end w.0 ≡ b → MatchBool b ((None ≡ Some w.0) × (new ≡ w.1)) (Walks later w.1 None new) → GoesOn event later old new
    by true is ended = absurd (none-some w.0 ended.0)
    by false is rest = record { said = w.0; next = w.1; answers = w.2; goes = is; rest = rest }

-- ---- syncs

-- what syncs from here on tell, some from there tell
abbrev pub Leads : {D : Type 0} → Durable D → Durable D → Type 0
Leads {D} from here = (more : ℕ) (told : Option Reply) (new : Durable D) → Walks (replicate more events.Sync) here told new → (syncs : ℕ) × Walks (replicate syncs events.Sync) from told new

pub leads_on : {D : Type 0} (from here next : Durable D) (said : Reply) → Leads from here → Answers here events.Sync said next → is_end said ≡ false → Leads from next
leads_on {D} from here next said leads answers goes = λ more told new rest.
    leads (suc more) told new (said, next, answers, subst (λ b. MatchBool b ((told ≡ Some said) × (new ≡ next)) (Walks (replicate more events.Sync) next told new)) (sym goes) rest)

pub leads_to : {D : Type 0} (from here next : Durable D) (said : Reply) (told : Option Reply) → Leads from here → Answers here events.Sync said next → told ≡ ended_by said →
    (syncs : ℕ) × Walks (replicate syncs events.Sync) from told next
leads_to from here next said told leads answers is = leads (suc zero) told next (one_step here next events.Sync said told answers is)

-- a sync that had nothing to do leaves no group that waits,
pub none_waits : {D : Type 0} (old new : Durable D) → Answers old events.Sync replies.Nothing new → new.unsynced ≡ []
none_waits {D} old new answers = by old.source.halted old.unsynced refl answers
  where
    by : (b : Bool) (groups : List GroupValue) → old.unsynced ≡ groups → SyncAnswers b groups old replies.Nothing new → new.unsynced ≡ []
    by true groups is a = absurd (cc (a.0))
    by false [] is a = ap (λ (x : Durable D). x.unsynced) a.1 ∙ is
    by false (group ∷ groups) is (inl a) = absurd (cc (a.0))
    by false (group ∷ groups) is (inr a) = absurd (cc (a.1))

-- one that put a group on the log one fewer,
pub fewer_wait : {D : Type 0} (old new : Durable D) (first last : ℕ) → Answers old events.Sync (replies.Synced first last) new → length new.unsynced < length old.unsynced
fewer_wait {D} old new first last answers = by old.source.halted old.unsynced answers
  where
    by : (b : Bool) (groups : List GroupValue) → SyncAnswers b groups old (replies.Synced first last) new → length new.unsynced < length old.unsynced
    by true groups a = absurd (cc (a.0))
    by false [] a = absurd (cc (a.0))
    by false (group ∷ groups) (inl a) = omega (arith, ap (λ (gs : List GroupValue). length gs) a.1.waits)
    by false (group ∷ groups) (inr a) = absurd (cc (a.1))

-- and each other one ends a put
pub sync_ends : {D : Type 0} (old new : Durable D) (said : Reply) → Answers old events.Sync said new → (said ≡ replies.Nothing → ⊥) → ((first last : ℕ) → said ≡ replies.Synced first last → ⊥) →
    is_end said ≡ true
sync_ends {D} old new said answers some other = by old.source.halted old.unsynced answers
  where
    by : (b : Bool) (groups : List GroupValue) → SyncAnswers b groups old said new → is_end said ≡ true
    by true groups a = ap is_end a.0
    by false [] a = absurd (some a.0)
    by false (group ∷ groups) (inl a) = absurd (other group.first group.last a.0)
    by false (group ∷ groups) (inr a) = ap is_end a.1

-- ---- the session's transaction is the last that is flushed

-- it is prepared, with these changes
record IsReady (s : Source) (session : ℕ) (changes : List Change) : Type 0 where
  t : Open
  is : open_of s session ≡ Some t
  prepared : is_prepared (Some t) ≡ true
  same : t.changes ≡ changes

-- it is the last one that is queued
record IsLastQueued (s : Source) (session : ℕ) (changes : List Change) : Type 0 where
  t : Open
  is : open_of s session ≡ Some t
  same : t.changes ≡ changes
  front : List ℕ
  queue : s.queue ≡ front ++ session ∷ []

-- a refusal that says that it is past the step is none of those before it
past_cause : (b : Bool) (first fault : SourceFault) (later : Option SourceFault) → is_past first ≡ false → is_past fault ≡ true → cause b first later ≡ Some fault →
    (b ≡ false) × (later ≡ Some fault)
past_cause true first fault later before past is = absurd (both_ways (is_past fault) (ap is_past (sym (same_Some first fault is)) ∙ before) past)
past_cause false first fault later before past is = (refl, is)

past_session : (s : Source) (session : ℕ) (later : Option SourceFault) (fault : SourceFault) → is_past fault ≡ true → session_fault s session later ≡ Some fault → later ≡ Some fault
past_session s session later fault past is =
    (past_cause (not (is_session s session)) NoSession fault later refl past (past_cause s.halted Halted fault (cause (not (is_session s session)) NoSession later) refl past is).1).1

-- a refusal that ends no put is one of these
is_past_if : (fault : SourceFault) (said : Reply) → said ≡ replies.Source fault → is_end said ≡ false → is_past fault ≡ true
is_past_if fault said is goes = not-false (is_past fault) (ap is_end (sym is) ∙ goes)

-- what a session's transaction becomes
set_open : (s : Source) (session : ℕ) (t : Option Open) → is_session s session ≡ true → open_of (with_open s session t) session ≡ t
set_open s session t within =
    let both = and_parts (nat_le 1 session) (nat_le session (length s.sessions)) within in
    get_or-set_same s.sessions (session - 1) t None (omega (arith, leb-true 1 session both.0, leb-true session (length s.sessions) both.1))

-- a call of a session that is not refused
of_session : (s : Source) (session : ℕ) (later : Option SourceFault) → session_fault s session later ≡ None → is_session s session ≡ true
of_session s session later none = it_is _ (no_cause _ NoSession later (no_cause s.halted Halted _ none).1).0

not_active : (b : Bool) (fault : SourceFault) → cause (not b) NotActive None ≡ Some fault → b ≡ false
not_active true fault is = absurd (none-some fault is)
not_active false fault is = refl

prepared_one : (t : Option Open) → is_active t ≡ false → IsTrue (is_active t || is_prepared t) → (one : Open) × (t ≡ Some one) × (is_prepared (Some one) ≡ true)
prepared_one None inactive is = absurd (false≢true is)
prepared_one (Some one) inactive is =
    (one, refl, elim (or_cases (is_active (Some one)) (is_prepared (Some one)) is) [ inl active ↦ absurd (both_ways _ inactive active) | inr prepared ↦ prepared ])

ready : {D : Type 0} (old new : Durable D) (session : ℕ) (said : Reply) → Answers old (events.Prepare session) said new → is_end said ≡ false → IsTrue (is_unqueued old.source session) →
    IsReady new.source session (changes_of old.source session)
ready {D} old new session said answers goes unqueued = by (prepare_fault old.source session) refl answers
  where
    fresh : (b : Bool) → is_empty_list (changes_of old.source session) ≡ b → is_session old.source session ≡ true → said ≡ prepared_reply (Ok (prepare_answer old.source session)) →
        new ≡ with_source old (prepared old.source session) → IsReady new.source session (changes_of old.source session)
    fresh true none within is leaves =
        absurd (true≢false (sym (ap is_end (is ∙ ap (λ b. prepared_reply (Ok (if b then Empty else Parent old.source.committed))) none)) ∙ goes))
    fresh false some within is leaves =
        let its = changes_of old.source session in
        let one : Open = record { changes = its; phase = Prepared old.source.committed } in
        record {
          t = one;
          is = ap (λ (x : Durable D). open_of x.source session) leaves ∙ ap (λ b. open_of (with_open old.source session (if b then None else Some one)) session) some
              ∙ set_open old.source session (Some one) within;
          prepared = refl;
          same = refl;
        }

    by : (refusal : Option SourceFault) → prepare_fault old.source session ≡ refusal →
        CallAnswers refusal (prepared_reply (Ok (prepare_answer old.source session))) (prepared old.source session) old said new → IsReady new.source session (changes_of old.source session)
    by None none a = fresh (is_empty_list (changes_of old.source session)) refl (of_session old.source session _ none) a.0 a.1
    by (Some fault) is a =
        let past = past_session old.source session _ fault (is_past_if fault said a.0 goes) is in
        let one = prepared_one (open_of old.source session) (not_active (is_active (open_of old.source session)) fault past) unqueued in
        subst (λ (x : Durable D). IsReady x.source session (changes_of old.source session)) (sym a.1)
        (record { t = one.0; is = one.1; prepared = one.2; same = sym (ap (λ (t : Option Open). option_map_or (λ t. t.changes) t []) one.1) })

last_queued : {D : Type 0} (old new : Durable D) (session : ℕ) (changes : List Change) (said : Reply) → Answers old (events.Queue session) said new → is_end said ≡ false →
    IsReady old.source session changes → IsLastQueued new.source session changes
last_queued {D} old new session changes said answers goes r = by (queue_fault old.source session) refl answers
  where
    by : (refusal : Option SourceFault) → queue_fault old.source session ≡ refusal → CallAnswers refusal replies.Done (queued old.source session) old said new →
        IsLastQueued new.source session changes
    by None none a =
        let moved : Open → Open = λ t. record { changes = t.changes; phase = queued_phase t.phase } in
        record {
          t = record { changes = r.t.changes; phase = queued_phase r.t.phase };
          is = ap (λ (x : Durable D). open_of x.source session) a.1 ∙ set_open old.source session _ (of_session old.source session _ none) ∙ ap (option_map moved) r.is;
          same = r.same;
          front = old.source.queue;
          queue = ap (λ (x : Durable D). x.source.queue) a.1;
        }
    by (Some fault) is a =
        let past = is_past_if fault said a.0 goes in
        let later = past_session old.source session _ fault past is in
        let full = ap (λ (t : Option Open). cause (not (is_prepared t)) NotPrepared (cause (nat_le old.source.limit (length old.source.log + length old.source.queue)) Exhausted None)) r.is
        in
        absurd (none-some fault (past_cause _ Exhausted fault None refl past (sym (full ∙ ap (λ b. cause (not b) NotPrepared (cause (nat_le old.source.limit (length old.source.log
        + length old.source.queue)) Exhausted None)) r.prepared) ∙ later)).1)

-- the record of the last queued one
last_next : (s : Source) (before : List Seen) (front : List ℕ) (session : ℕ) (records : List Record) → AreNextRecords s before (front ++ session ∷ []) records →
    (those : List Record) × (made : Record) × (seen : List Seen) × (records ≡ those ++ made ∷ []) × IsNextRecord s seen session made
last_next s before [] session [] are = absurd are
last_next s before [] session (made ∷ []) are = ([], made, before, refl, are.0)
last_next s before [] session (made ∷ other ∷ records) are = absurd are.1
last_next s before (first ∷ front) session [] are = absurd are
last_next s before (first ∷ front) session (next ∷ records) are =
    let w = last_next s (before ++ entry_of s.tables next first ∷ []) front session records are.1 in (next ∷ w.0, w.1, w.2, ap (λ l. next ∷ l) w.3, w.4)

ends_flushed : {D : Type 0} (old new : Durable D) (session : ℕ) (changes : List Change) (said : Reply) → Answers old events.Flush said new → is_end said ≡ false →
    IsLastQueued old.source session changes → EndsWith new.source session changes
ends_flushed {D} old new session changes said answers goes q = by old.source.halted old.source.queue refl answers
  where
    flushed_so : TellsFlushed old said new → EndsWith new.source session changes
    flushed_so told =
        let f = told.waits.flushes in
        let w = last_next old.source (seen_log old.source) q.front session f.records (subst (λ queue. AreNextRecords old.source (seen_log old.source) queue f.records) q.queue f.are) in
        record {
          front = old.source.log ++ w.0;
          others = old.source.owners ++ q.front;
          made = w.1;
          log = ap (λ (s : Source). s.log) f.leaves ∙ ap (λ l. old.source.log ++ l) w.3 ∙ sym (append_assoc old.source.log w.0 (w.1 ∷ []));
          owned = ap (λ (s : Source). s.owners) f.leaves ∙ ap (λ l. old.source.owners ++ l) q.queue ∙ sym (append_assoc old.source.owners q.front (session ∷ []));
          is = w.4.changes ∙ ap (λ (t : Open). t.changes) (same_Some w.4.t q.t (sym w.4.is ∙ q.is)) ∙ q.same;
        }

    by : (b : Bool) (queue : List ℕ) → old.source.queue ≡ queue → FlushAnswers b queue old said new → EndsWith new.source session changes
    by true queue is a = absurd (true≢false (sym (ap is_end a.0) ∙ goes))
    by false [] is a = absurd (empty q.front (sym q.queue ∙ is))
      where
        empty : (front : List ℕ) → front ++ session ∷ [] ≡ [] → ⊥
        empty [] e = cc (e)
        empty (x ∷ front) e = cc (e)
    by false (first ∷ rest) is (inl told) = flushed_so told
    by false (first ∷ rest) is (inr a) = absurd (true≢false (sym (ap is_end a.0) ∙ goes))

-- a sync adds no record
ends_same : {D : Type 0} (old new : Durable D) (session : ℕ) (changes : List Change) → new.source.log ≡ old.source.log → new.source.owners ≡ old.source.owners →
    EndsWith old.source session changes → EndsWith new.source session changes
ends_same old new session changes log owners e =
    record { front = e.front; others = e.others; made = e.made; log = log ∙ e.log; owned = owners ∙ e.owned; is = e.is }

ends_synced : {D : Type 0} (old new : Durable D) (session : ℕ) (changes : List Change) (said : Reply) → Answers old events.Sync said new → EndsWith old.source session changes →
    EndsWith new.source session changes
ends_synced {D} old new session changes said answers e = by old.source.halted old.unsynced answers
  where
    by : (b : Bool) (groups : List GroupValue) → SyncAnswers b groups old said new → EndsWith new.source session changes
    by true groups a = subst (λ (x : Durable D). EndsWith x.source session changes) (sym a.1) e
    by false [] a = subst (λ (x : Durable D). EndsWith x.source session changes) (sym a.1) e
    by false (group ∷ groups) (inl a) = ends_same old new session changes (ap (λ (s : Source). s.log) a.1.source) (ap (λ (s : Source). s.owners) a.1.source) e
    by false (group ∷ groups) (inr (fault, is, inl failed)) =
        ends_same old new session changes (ap (λ (s : Source). s.log) failed.1.source) (ap (λ (s : Source). s.owners) failed.1.source) e
    by false (group ∷ groups) (inr (fault, is, inr lacks)) =
        ends_same old new session changes (ap (λ (x : Durable D). x.source.log) lacks.1.same) (ap (λ (x : Durable D). x.source.owners) lacks.1.same) e

all_synced : {D : Type 0} (syncs : ℕ) (old new : Durable D) (session : ℕ) (changes : List Change) → Walks (replicate syncs events.Sync) old None new → EndsWith old.source session changes →
    EndsWith new.source session changes
all_synced {D} zero old new session changes w e = subst (λ (x : Durable D). EndsWith x.source session changes) (sym w.1) e
all_synced (suc syncs) old new session changes w e =
    let g = goes_on events.Sync (replicate syncs events.Sync) old new w in
    all_synced syncs g.next new session changes g.rest (ends_synced old g.next session changes g.said g.answers e)

-- after all steps of a put that queued it
steps_end : {D : Type 0} (session syncs : ℕ) (old new : Durable D) → Walks (steps_of session syncs) old None new → IsTrue (is_unqueued old.source session) →
    EndsWith new.source session (changes_of old.source session)
steps_end session syncs old new w unqueued =
    let its = changes_of old.source session in
    let p = goes_on (events.Prepare session) (events.Queue session ∷ events.Flush ∷ replicate syncs events.Sync) old new w in
    let q = goes_on (events.Queue session) (events.Flush ∷ replicate syncs events.Sync) p.next new p.rest in
    let f = goes_on events.Flush (replicate syncs events.Sync) q.next new q.rest in
    all_synced syncs f.next new session its f.rest (ends_flushed q.next f.next session its f.said f.answers f.goes
    (last_queued p.next q.next session its q.said q.answers q.goes (ready old p.next session p.said p.answers p.goes unqueued)))

-- ---- the receipt

-- where no group waits all is synced
all_are_synced : {D : Type 0} (s : Durable D) → HasLog s → s.unsynced ≡ [] → IsSound s.source → s.source.synced ≡ length s.source.log
all_are_synced {D} s h none sound =
    let left : drop s.source.synced s.source.log ≡ [] = subst (λ (gs : List GroupValue). Hold gs (drop s.source.synced s.source.log)) none h.flushed.held in
    omega (arith, ap (λ (l : List Record). length l) left, length-drop s.source.synced s.source.log, sound.synced_within)

pub told_on_log : {D : Type 0} (session syncs : ℕ) (old before new : Durable D) (given : Option Given) → Walks (steps_of session syncs) old None before → before.unsynced ≡ [] →
    new ≡ with_source before (all_committed before.source) → IsSound before.source → HasLog new → receipt_for before.source session ≡ given → ToldIsOnLog session old (said_by given) new
told_on_log session syncs old before new None w none leaves sound h is = tt
told_on_log {D} session syncs old before new (Some r) w none leaves sound h is =
    let s = before.source in
    let logged : HasLog before = subst (λ (x : Durable D). HasLog x) leaves h in
    let l = found_logged s session r sound is in
    let place : r.gno - 1 < s.synced = omega (arith, l.since, l.within) in
    subst (λ (x : Durable D). IsOnLog session old r.gno r.sequence r.parent x) (sym leaves) (record {
      made = l.made;
      there = ap (λ (records : List Record). slice_get records (r.gno - 1)) logged.flushed.records ∙ get_before (r.gno - 1) s.synced s.log place ∙ l.there;
      gno_is = ap (λ (x : Given). x.gno) l.is;
      sequence_is = ap (λ (x : Given). x.sequence) l.is;
      parent_is = ap (λ (x : Given). x.parent) l.is;
      owner = l.owner;
      least = omega (arith, l.since);
      committed = l.within;
      changes = λ unqueued. ap (λ (x : Given). x.changes) l.is
          ∙ last_found s session (changes_of old.source session) r sound (all_are_synced before logged none sound) (steps_end session syncs old before w unqueued) is;
    })
