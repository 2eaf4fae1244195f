-- The laws of runs with legal replies.
use mathlib.Core.List.{IsPrefix}
use Rattle.std.proofs.Common.{◌≡◌, ◌∙◌, sym, ap, subst, refl, ℕ, zero, suc, ◌+◌, ◌-◌, ◌<◌, ◌≤◌, Bool, true, false, if◌then◌else◌, List, [], ◌∷◌, ◌++◌, length, length-append, take, drop, Option, Some}
use Rattle.std.proofs.Common.{None, slice_get, inl, inr, ◌⊎◌, eq-or-lt_of_le, arith, cond, count_by, not, ◌&&◌}
use Rattle.std.specs.Prelude.{ℤ, option_and_then}
use Rattle.std.specs.FinMap.{get}
use Rattle.std.proofs.lemmas.Bool.{false≢true, cases_lt, and_parts, leb-true}
use Rattle.std.proofs.lemmas.Option.{none-some, same_Some}
use Rattle.std.proofs.lemmas.List.Sums.{sum_by-cons}
use Rattle.std.proofs.lemmas.List.{take-append-drop, take-append-le, take-take, length-take-le}
use Rattle.schema.specs.declared.RowId.{RowId}
use Rattle.store_trait.specs.Operation.{loaded}
use Rattle.record_codec.specs.declared.records.Record.{Record}
use Rattle.record_codec.specs.Log.{IsLegalLog}
use Rattle.record_codec.proofs.Logs.{beginning_leaves}
use Rattle.scheduler.specs.Gnos.{has_gno, low_of}
use Rattle.scheduler.proofs.Gnos.{has_gno_front, has_gno_behind, has_gno_last, has_gno-take, distinct_apart, AreDistinct_front, AreDistinct-take, low_of-take}
use Rattle.gapped.specs.Gapped.{gapped}
use Rattle.world.specs.declared.events.Event.{Event}
use Rattle.world.specs.declared.events.Event.TheVariants as events
use Rattle.world.specs.declared.events.Reply.{Reply}
use Rattle.world.specs.declared.events.Reply.TheVariants as replies
use Rattle.world.specs.Pair.{Pair, new_pair, next, pair_after, pair_at, replica_committed, published_gnos, busy}
use Rattle.world.specs.Legal.{Setup, rows_after, is_commit, read_reply, Allowed, AreAllowed, AreLegal, refused_or, FlushAnswers, SyncAnswers, RotateAnswers, is_full, Answers, asks_memory}
use Rattle.world.specs.Laws.{TellsPublished, ReadsArePrefixes, ReadsAreGapped, ReadsAreAnswered, ReadsAreSynced, ReadsNeverGoBack, PublishedWithin, NumbersNeverFall, CommittedAreSynced}
use Rattle.world.specs.Laws.{EachCommitOnceInOrder, EachCommitOnce, NothingUnsyncedIsAccepted, RefusesOnlyGaps, OperationsLeaveRows, asks_source, HaltsForGood}
use Rattle.world.proofs.ReplicaEvents.{ordered_leave_rows}
use Rattle.world.proofs.LawsReplies.{Says, says}
use Rattle.world.proofs.LawsSteps.{Holds, at_first, step, in_order, oldest_of, Grown, same, onward, none_falls, grows, IsRead, is_read}
use Rattle.std.specs.Option.{is_none}
use Rattle.source_core.specs.declared.fault.SourceFault.{SourceFault}
use Rattle.source_core.specs.declared.fault.SourceFault.TheVariants as source
use Rattle.source_core.specs.Calls.{cause}
use Rattle.log_file.specs.declared.fault.LogFault.TheVariants as log_file

-- ---- one event after another

-- An event of a run, and its reply: the state before allows the reply, and goes on to the next one.
pub record Step (setup : Setup) (log : List Record) (events_at : Option Event) (replies_at : Option Reply) (before later : Pair) (event : Event) (reply : Reply) : Type 0 where
  pub event_is : events_at ≡ Some event
  pub reply_is : replies_at ≡ Some reply
  pub allowed : Allowed setup log before event reply
  pub onward : later ≡ next before event reply

-- Behind the last one there is none, and the state stays.
record IsOver (events_at : Option Event) (replies_at : Option Reply) (before later : Pair) : Type 0 where
  no_event : events_at ≡ None
  no_reply : replies_at ≡ None
  stays : later ≡ before

-- at each place one of the two
abbrev Goes : Setup → List Record → Option Event → Option Reply → Pair → Pair → Type 0
Goes setup log event_at reply_at before later = IsOver event_at reply_at before later ⊎ ((event : Event) × (reply : Reply) × Step setup log event_at reply_at before later event reply)

goes : (setup : Setup) (log : List Record) (pair : Pair) (es : List Event) (rs : List Reply) → AreAllowed setup log pair es rs → (place : ℕ) →
    Goes setup log (slice_get es place) (slice_get rs place) (pair_after pair (take place es) (take place rs)) (pair_after pair (take (suc place) es) (take (suc place) rs))
goes setup log pair [] [] allowed zero = inl (record { no_event = refl; no_reply = refl; stays = refl })
goes setup log pair [] [] allowed (suc place) = inl (record { no_event = refl; no_reply = refl; stays = refl })
goes setup log pair [] (r ∷ rs) allowed place = absurd allowed
goes setup log pair (e ∷ es) [] allowed place = absurd allowed
goes setup log pair (e ∷ es) (r ∷ rs) allowed zero = inr (e, r, record { event_is = refl; reply_is = refl; allowed = allowed.0; onward = refl })
goes setup log pair (e ∷ es) (r ∷ rs) allowed (suc place) = goes setup log (next pair e r) es rs allowed.1 place

module _ (setup : Setup) (log : List Record) (es : List Event) (rs : List Reply) (legal : AreLegal setup log es rs) where
  at : ℕ → Pair
  at = pair_at es rs

  abbrev pub StepAt : ℕ → Event → Reply → Type 0
  StepAt place event reply = Step setup log (slice_get es place) (slice_get rs place) (pair_at es rs place) (pair_at es rs (suc place)) event reply

  -- the step of a reply, and that of an event
  pub by_reply : (place : ℕ) (reply : Reply) → slice_get rs place ≡ Some reply → (event : Event) × StepAt place event reply
  by_reply place reply got = elim (goes setup log new_pair es rs legal.allowed place) [
    | inl over ↦ absurd (none-some reply (sym over.no_reply ∙ got))
    | inr s ↦ (s.0, subst (StepAt place s.0) (same_Some s.1 reply (sym s.2.reply_is ∙ got)) s.2)
  ]

  pub by_event : (place : ℕ) (event : Event) → slice_get es place ≡ Some event → (reply : Reply) × StepAt place event reply
  by_event place event got = elim (goes setup log new_pair es rs legal.allowed place) [
    | inl over ↦ absurd (none-some event (sym over.no_event ∙ got))
    | inr s ↦ (s.1, subst (λ e. StepAt place e s.1) (same_Some s.0 event (sym s.2.event_is ∙ got)) s.2)
  ]

  pub holds_at : (moment : ℕ) → Holds setup log (pair_at es rs moment)
  holds_at zero = at_first setup log
  holds_at (suc moment) = elim (goes setup log new_pair es rs legal.allowed moment) [
    | inl over ↦ subst (λ (p : Pair). Holds setup log p) (sym over.stays) (holds_at moment)
    | inr s ↦ subst (λ (p : Pair). Holds setup log p) (sym s.2.onward) (step setup log legal.legal _ s.0 s.1 (says setup log _ s.0 s.1 s.2.allowed) (holds_at moment))
  ]

  grown_once : (moment : ℕ) → Grown (pair_at es rs moment) (pair_at es rs (suc moment))
  grown_once moment = elim (goes setup log new_pair es rs legal.allowed moment) [
    | inl over ↦ subst (Grown (pair_at es rs moment)) (sym over.stays) (same (pair_at es rs moment))
    | inr s ↦ subst (Grown (pair_at es rs moment)) (sym s.2.onward) (grows setup log _ s.0 s.1 (says setup log _ s.0 s.1 s.2.allowed) (holds_at moment))
  ]

  pub grown : (before later : ℕ) → before ≤ later → Grown (pair_at es rs before) (pair_at es rs later)
  grown before zero le = let none : 0 ≡ before = omega (arith, le) in subst (λ n. Grown (pair_at es rs n) new_pair) none (same new_pair)
  grown before (suc later) le = elim (eq-or-lt_of_le le) [
    | inl now ↦ subst (λ n. Grown (pair_at es rs before) (pair_at es rs n)) now (same (pair_at es rs before))
    | inr lt ↦ onward _ _ _ (grown before later (omega (arith, lt))) (grown_once later)
  ]

  -- the event of a reply, and what the reply says of the state before it
  said_at : (place : ℕ) (reply : Reply) → slice_get rs place ≡ Some reply → (event : Event) × (slice_get es place ≡ Some event) × Says setup log (pair_at es rs place) event reply
  said_at place reply got = let s = by_reply place reply got in (s.0, s.1.event_is, says setup log _ s.0 reply s.1.allowed)

  -- what a read says
  read_at : (place upto more : ℕ) (row : Option (List ℤ)) → slice_get rs place ≡ Some (replies.Read upto more row) →
      (id : RowId) × (slice_get es place ≡ Some (events.Read id)) × IsRead setup log legal.legal (pair_at es rs place) id upto more row
  read_at place upto more row got =
      let at = said_at place (replies.Read upto more row) got in
      let h = holds_at place in
      (at.2.0, at.1 ∙ ap Some at.2.1, is_read setup log legal.legal (pair_at es rs place) at.2.0 upto more row h.shown h.committed at.2.2)

  -- of this row
  read_of : (place : ℕ) (id : RowId) (upto more : ℕ) (row : Option (List ℤ)) →
      slice_get es place ≡ Some (events.Read id) → slice_get rs place ≡ Some (replies.Read upto more row) → IsRead setup log legal.legal (pair_at es rs place) id upto more row
  read_of place id upto more row read answer =
      let at = read_at place upto more row answer in
      subst (λ (q : RowId). IsRead setup log legal.legal (pair_at es rs place) q upto more row) (cc (same_Some (events.Read at.0) (events.Read id) (sym at.1 ∙ read))) at.2

  -- the commits are of records that are dispatched
  committed_within : (place gno : ℕ) → has_gno (pair_at es rs place).commits gno ≡ true → (1 ≤ gno) × (gno ≤ (pair_at es rs place).dispatched)
  committed_within place gno is =
      let pair = pair_at es rs place in
      let c = (holds_at place).committed in
      let bounds = and_parts _ _ (sym (c.each gno) ∙ has_gno_front pair.commits (pair.out ++ pair.finished) gno is) in
      (leb-true 1 gno bounds.0, leb-true gno pair.dispatched bounds.1)

-- ---- reads

pub prefixes : ReadsArePrefixes
prefixes setup log es rs legal preserve place id upto more row read answer =
    let r = read_of setup log es rs legal place id upto more row read answer in
    let first = r.in_order preserve in
    first.2 ∙ ap (λ n. option_and_then (λ db. get db id) (rows_after setup log n)) (sym first.0)

pub gapped_reads : ReadsAreGapped
gapped_reads setup log es rs legal place id upto more row read answer =
    let pair = pair_at es rs place in
    let r = read_of setup log es rs legal place id upto more row read answer in
    let h = holds_at setup log es rs legal place in
    let c = h.committed in
    let now = in_order setup log pair h in
    record {
      gnos = published_gnos pair;
      once = AreDistinct-take pair.published pair.commits (AreDistinct_front pair.commits (pair.out ++ pair.finished) c.distinct);
      within = λ gno is.
          let of = committed_within setup log es rs legal place gno (has_gno-take pair.published pair.commits gno is) in
          (of.0, omega (arith, of.1, now.dispatched_within, now.accepted_within, now.synced_within, now.flushed_within));
      closed = c.shown;
      mark = r.mark;
      count = r.counted ∙ sym (length-take-le pair.published pair.commits h.shown);
      row_is = r.row_is;
    }

-- what is due to a read tells the published commits
tells_published : (setup : Setup) (log : List Record) (legal : IsLegalLog setup.tables (loaded setup.base) log) (pair : Pair) (id : RowId) → Holds setup log pair →
    (upto : ℕ) × (more : ℕ) × (row : Option (List ℤ)) × (read_reply setup log pair id ≡ replies.Read upto more row) × TellsPublished setup pair upto more
tells_published setup log legal pair id h =
    let answer = parts setup.preserve in
    let r = is_read setup log legal pair id answer.0 answer.1 answer.2 h.shown h.committed (sym answer.3) in
    (answer.0, answer.1, answer.2, answer.3, record { all = r.counted; in_order = λ preserve. ((r.in_order preserve).0, (r.in_order preserve).1) }) where
      gnos : List ℕ
      gnos = published_gnos pair

      parts : (b : Bool) → (upto : ℕ) × (more : ℕ) × (row : Option (List ℤ))
          × ((if b then replies.Read pair.published 0 (option_and_then (λ db. get db id) (rows_after setup log pair.published))
          else replies.Read (low_of gnos) (pair.published - low_of gnos) (option_and_then (λ db. get db id) (gapped setup.tables (loaded setup.base) log gnos))) ≡ replies.Read upto more row)
      parts true = (_, _, _, refl)
      parts false = (_, _, _, refl)

pub answered : ReadsAreAnswered
answered setup log es rs legal place id read =
    let s = by_event setup log es rs legal place (events.Read id) read in
    let told = tells_published setup log legal.legal (pair_at es rs place) id (holds_at setup log es rs legal place) in
    elim s.1.allowed [
      | inl lacks ↦ absurd (false≢true lacks)
      | inr is ↦ (told.0, told.1, told.2, s.1.reply_is ∙ ap Some (is ∙ told.3), told.4)
    ]

-- ---- commits

-- a commit is one more
one_more : (pair : Pair) (event : Event) (reply : Reply) → replica_committed (next pair event reply) ≡ replica_committed pair + cond (is_commit reply) 1 0
one_more pair event (replies.Commit gno) = length-append pair.commits (gno ∷ [])
one_more pair event reply = omega arith

added : (all before one more : ℕ) → all ≡ before + one → all + more ≡ before + (one + more)
added all before one more h = omega (arith, h)

-- the number committed at a moment is the number of commits before it
commits_until : (setup : Setup) (log : List Record) (pair : Pair) (es : List Event) (rs : List Reply) → AreAllowed setup log pair es rs → (place : ℕ) →
    replica_committed (pair_after pair (take place es) (take place rs)) ≡ replica_committed pair + count_by is_commit (take place rs)
commits_until setup log pair es rs allowed zero = omega arith
commits_until setup log pair [] [] allowed (suc place) = omega arith
commits_until setup log pair [] (r ∷ rs) allowed (suc place) = absurd allowed
commits_until setup log pair (e ∷ es) [] allowed (suc place) = absurd allowed
commits_until setup log pair (e ∷ es) (r ∷ rs) allowed (suc place) =
    commits_until setup log (next pair e r) es rs allowed.1 place
    ∙ added (replica_committed (next pair e r)) (replica_committed pair) (cond (is_commit r) 1 0) (count_by is_commit (take place rs)) (one_more pair e r)
    ∙ ap (λ k. replica_committed pair + k) (sym (sum_by-cons (λ x. cond (is_commit x) 1 0) r (take place rs)))

pub in_log_order : EachCommitOnceInOrder
in_log_order setup log es rs legal preserve place gno got =
    let at = said_at setup log es rs legal place (replies.Commit gno) got in
    omega (arith, at.2.in_order preserve, commits_until setup log new_pair es rs legal.allowed place)

pub once : EachCommitOnce
once setup log es rs legal before later gno lt first second =
    let pair = pair_at es rs later in
    let at = said_at setup log es rs legal later (replies.Commit gno) second in
    let c = (holds_at setup log es rs legal later).committed in
    let behind = (by_reply setup log es rs legal before (replies.Commit gno) first).1.onward in
    let among : has_gno (pair_at es rs (suc before)).commits gno ≡ true = ap (λ (p : Pair). has_gno p.commits gno) behind ∙ has_gno_last (pair_at es rs before).commits gno in
    let more = (grown setup log es rs legal (suc before) later lt).commits in
    let now : has_gno pair.commits gno ≡ true = subst (λ (l : List ℕ). has_gno l gno ≡ true) more.1 (has_gno_front (pair_at es rs (suc before)).commits more.0 gno among) in
    false≢true (sym (distinct_apart pair.commits (pair.out ++ pair.finished) c.distinct gno now) ∙ has_gno_behind pair.out pair.finished gno at.2.done)

-- ---- what is synced

-- a reply by which this record is one of the synced ones says so
synced_by : (setup : Setup) (log : List Record) (pair : Pair) (event : Event) (reply : Reply) (gno : ℕ) → Says setup log pair event reply → Holds setup log pair → pair.synced < gno →
    gno ≤ (next pair event reply).synced →
    (from to : ℕ) × (reply ≡ replies.Synced from to) × (from ≤ gno) × (gno ≤ to)
synced_by setup log pair event (replies.Synced first last) gno s h behind within = (first, last, refl, omega (arith, (oldest_of pair first last s h.source.follow).0, behind), within)
synced_by setup log pair event reply gno s h behind within = absurd (omega (arith, behind, within))

-- a record that is synced at some moment was told so before
synced_before : (setup : Setup) (log : List Record) (es : List Event) (rs : List Reply) → AreLegal setup log es rs → (place gno : ℕ) → 1 ≤ gno → gno ≤ (pair_at es rs place).synced →
    (before from to : ℕ) × (before < place) × (slice_get rs before ≡ Some (replies.Synced from to)) × (from ≤ gno) × (gno ≤ to)
synced_before setup log es rs legal zero gno some within = absurd (omega (arith, some, within))
synced_before setup log es rs legal (suc place) gno some within = elim (cases_lt (pair_at es rs place).synced gno) [
  | inl now ↦ elim (goes setup log new_pair es rs legal.allowed place) [
    | inl over ↦ absurd (omega (arith, now, within, ap (λ (p : Pair). p.synced) over.stays))
    | inr s ↦
        let so = says setup log _ s.0 s.1 s.2.allowed in
        let syncs : (pair_at es rs (suc place)).synced ≡ (next (pair_at es rs place) s.0 s.1).synced = ap (λ (p : Pair). p.synced) s.2.onward in
        let told = synced_by setup log _ s.0 s.1 gno so (holds_at setup log es rs legal place) now (omega (arith, within, syncs)) in
        (place, told.0, told.1, omega arith, s.2.reply_is ∙ ap Some told.2, told.3, told.4)
  ]
  | inr earlier ↦
      let told = synced_before setup log es rs legal place gno some earlier in
      (told.0, told.1, told.2, omega (arith, told.3), told.4, told.5, told.6)
]

pub committed_before : CommittedAreSynced
committed_before setup log es rs legal place first last gno got least within =
    let at = said_at setup log es rs legal place (replies.Committed first last) got in
    synced_before setup log es rs legal place gno (omega (arith, at.2.0, least)) (omega (arith, at.2.1, within))

-- ---- what is accepted, and what is refused

pub only_synced : NothingUnsyncedIsAccepted
only_synced setup log es rs legal place got =
    let at = said_at setup log es rs legal place replies.Accepted got in
    (at.2.0, at.1 ∙ ap Some at.2.1, at.2.2, at.2.3)

pub only_gaps : RefusesOnlyGaps
only_gaps setup log es rs legal place fault got =
    let at = said_at setup log es rs legal place (replies.Replica fault) got in
    elim at.2 [
      | inl memory ↦ inl memory
      | inr gap ↦ inr (gap.0, gap.1, at.1 ∙ ap Some gap.2)
    ]

-- ---- the rows that readers have

pub operations_leave : OperationsLeaveRows
operations_leave setup log es rs legal preserve moment =
    let upto = (pair_at es rs moment).published in
    let whole = subst (λ (l : List Record). IsLegalLog setup.tables (loaded setup.base) l) (sym (take-append-drop upto log)) legal.legal in
    let left = beginning_leaves setup.tables (loaded setup.base) (take upto log) (drop upto log) whole in
    left.1 ∙ ap Some (sym (ordered_leave_rows setup.tables setup.base log upto left.0 legal.legal left.1))

-- ---- the numbers

pub numbers_in_order : PublishedWithin
numbers_in_order setup log es rs legal moment = in_order setup log (pair_at es rs moment) (holds_at setup log es rs legal moment)

pub never_fall : NumbersNeverFall
never_fall setup log es rs legal before later le = none_falls (pair_at es rs before) (pair_at es rs later) (grown setup log es rs legal before later le)

-- of commits that grow, more have no lower mark
marks_rise : (xs ys : List ℕ) (m n : ℕ) → IsPrefix xs ys → m ≤ n → m ≤ length xs → low_of (take m xs) ≤ low_of (take n ys)
marks_rise xs ys m n longer le within =
    let same : take m xs ≡ take m (take n ys) = sym (take-append-le m xs longer.0 within) ∙ ap (take m) longer.1 ∙ sym (take-take m n ys le) in
    subst (λ (l : List ℕ). low_of l ≤ low_of (take n ys)) (sym same) (low_of-take m (take n ys))

pub never_back : ReadsNeverGoBack
never_back setup log es rs legal before later m more n others row seen lt first second =
    let a = (read_at setup log es rs legal before m more row first).2 in
    let b = (read_at setup log es rs legal later n others seen second).2 in
    let g = grown setup log es rs legal before later (omega (arith, lt)) in
    let up = (none_falls (pair_at es rs before) (pair_at es rs later) g).published_rises in
    let low = marks_rise (pair_at es rs before).commits (pair_at es rs later).commits _ _ g.commits up (holds_at setup log es rs legal before).shown in
    (omega (arith, a.mark, b.mark, low), omega (arith, a.counted, b.counted, up))

pub reads_synced : ReadsAreSynced
reads_synced setup log es rs legal place upto more row got =
    let pair = pair_at es rs place in
    let r = (read_at setup log es rs legal place upto more row got).2 in
    let now = numbers_in_order setup log es rs legal place in (
      omega (arith, r.counted, now.published_within, now.replica_committed_within, now.dispatched_within, now.accepted_within),
      λ gno is.
          let of = committed_within setup log es rs legal place gno (has_gno-take (upto + more) pair.commits gno is) in
          omega (arith, of.1, now.dispatched_within, now.accepted_within),
    )

-- ---- a source is halted for good

-- the first cause of all
first_cause : (halts : Bool) (later : Option SourceFault) (reply answer : Reply) → halts ≡ true → reply ≡ refused_or (cause halts source.Halted later) answer → reply ≡ replies.Source source.Halted
first_cause true later reply answer h is = is
first_cause false later reply answer h is = absurd (false≢true h)

-- a halted source is asked for no memory
none_asked : (halts asked : Bool) → halts ≡ true → (not halts && asked) ≡ true → ⊥
none_asked true asked h is = false≢true is
none_asked false asked h is = false≢true h

refused_first : (halts : Bool) (later : Option SourceFault) → halts ≡ true → is_none (cause halts source.Halted later) ≡ true → ⊥
refused_first true later h is = false≢true is
refused_first false later h is = false≢true h

no_memory : (setup : Setup) (log : List Record) (pair : Pair) (event : Event) → pair.halted ≡ true → asks_source event ≡ true → asks_memory setup log pair event ≡ true → ⊥
no_memory setup log pair (events.Write session change) h asks lacks = refused_first pair.halted _ h lacks
no_memory setup log pair (events.Prepare session) h asks lacks = false≢true lacks
no_memory setup log pair events.Flush h asks lacks = none_asked pair.halted _ h lacks
no_memory setup log pair events.Sync h asks lacks = none_asked pair.halted _ h lacks
no_memory setup log pair events.Rotate h asks lacks = none_asked pair.halted _ h lacks
no_memory setup log pair events.Commit h asks lacks = none_asked pair.halted _ h lacks
no_memory setup log pair (events.Begin session) h asks lacks = false≢true lacks
no_memory setup log pair (events.See session id) h asks lacks = false≢true lacks
no_memory setup log pair (events.Queue session) h asks lacks = false≢true lacks
no_memory setup log pair (events.Abort session) h asks lacks = false≢true lacks
no_memory setup log pair event h asks lacks = false≢true asks

refuses : (setup : Setup) (log : List Record) (pair : Pair) (event : Event) (reply : Reply) → pair.halted ≡ true → asks_source event ≡ true → Answers setup log pair event reply →
    reply ≡ replies.Source source.Halted
refuses setup log pair (events.Begin session) reply h asks is = first_cause pair.halted _ reply _ h is
refuses setup log pair (events.Write session change) reply h asks is = first_cause pair.halted _ reply _ h is
refuses setup log pair (events.See session id) reply h asks is = first_cause pair.halted _ reply _ h is
refuses setup log pair (events.Prepare session) reply h asks is = first_cause pair.halted _ reply _ h is
refuses setup log pair (events.Queue session) reply h asks is = first_cause pair.halted _ reply _ h is
refuses setup log pair (events.Abort session) reply h asks is = first_cause pair.halted _ reply _ h is
refuses setup log pair events.Flush reply h asks is = subst (λ b. FlushAnswers setup log pair b pair.queue reply) h is
refuses setup log pair events.Sync reply h asks is = subst (λ b. SyncAnswers b pair.unsynced reply) h is
refuses setup log pair events.Rotate reply h asks is = subst (λ b. RotateAnswers b (busy pair) (is_full pair) (length pair.firsts) reply) h is
refuses setup log pair events.Commit reply h asks is = first_cause pair.halted _ reply _ h is
refuses setup log pair event reply h asks is = absurd (false≢true asks)

pub for_good : HaltsForGood
for_good setup log es rs legal before later event lt failed asked asks =
    let pair = pair_at es rs later in
    let s = by_event setup log es rs legal later event asked in
    let behind = (by_reply setup log es rs legal before (replies.Log log_file.Device) failed).1.onward in
    let h : pair.halted ≡ true = (grown setup log es rs legal (suc before) later lt).halted (ap (λ (p : Pair). p.halted) behind) in
    s.1.reply_is ∙ ap Some (elim s.1.allowed [
      | inl lacks ↦ absurd (no_memory setup log pair event h asks (and_parts _ _ lacks).0)
      | inr is ↦ refuses setup log pair event s.0 h asks is
    ])
