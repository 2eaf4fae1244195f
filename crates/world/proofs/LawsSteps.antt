-- What holds of each state of a run: its numbers are in order, and only grow, and its commits are a closed set of the log.
use Rattle.std.proofs.Common.{◌≡◌, ◌∙◌, sym, ap, subst, refl, ℕ, ◌+◌, ◌-◌, ◌≤◌, Bool, true, false, ◌&&◌, ◌||◌, ◌==◌, nat_le, if◌then◌else◌, List, [], ◌∷◌, ◌++◌, append_assoc, length, length-append}
use Rattle.std.proofs.Common.{map, take, Option, Some, inl, inr, arith, drop}
use Rattle.std.specs.Prelude.{ℤ, option_and_then, slice_get}
use Rattle.std.specs.FinMap.{get}
use Rattle.std.proofs.lemmas.Bool.{false≢true, and_parts, leb-true, cases_lt, or_right}
use Rattle.std.proofs.lemmas.Bool.Decides.{nat_tests}
use Rattle.std.proofs.lemmas.List.{take_all, take-append-le, length-take-le, length-take, length-drop, length-map}
use Rattle.schema.specs.declared.RowId.{RowId}
use Rattle.schema.specs.Covering.{Covers}
use Rattle.rows.specs.Database.{Database}
use Rattle.store_trait.specs.Operation.{loaded}
use Rattle.record_codec.specs.declared.records.Record.{Record}
use Rattle.record_codec.specs.Group.{AreNumbered}
use Rattle.record_codec.specs.Log.{after, touched, place_of, IsLegalLog}
use Rattle.record_codec.proofs.Logs.{part_is_numbered}
use Rattle.scheduler.specs.Gnos.{without, has_gno, AreDistinct, low_of, first_gnos}
use Rattle.scheduler.proofs.Gnos.{has_gno_behind, distinct_entered, has_gno_entered, distinct_moved_behind, has_gno_moved_behind, distinct_moved_front, has_gno_moved_front, AreDistinct_front}
use Rattle.scheduler.proofs.Gnos.{AreDistinct-take, low_is_low, low_rises, low_is_few, low_of_first, first_gnos-next, take-first_gnos, length-without}
use Rattle.gapped.specs.Gapped.{gapped, AreChosen, IsClosed}
use Rattle.gapped.proofs.Choosing.{among_pushed, are_chosen_more, first_are_chosen, record_at_number}
use Rattle.world.specs.declared.events.Event.{Event}
use Rattle.world.specs.declared.events.Reply.{Reply}
use Rattle.world.specs.declared.events.Reply.TheVariants as replies
use Rattle.world.specs.Pair.{Pair, new_pair, next, replica_committed, published_gnos, is_device}
use Rattle.world.specs.Legal.{Setup, rows_after, read_reply, stamp_of, next_records}
use Rattle.world.proofs.LawsReplies.{Says}
use mathlib.Core.List.{IsPrefix}
use base.Growing.{prefix_refl, prefix_trans}
use Rattle.world.specs.Laws.{AreInOrder, NoneFalls}

-- Each record that is dispatched is once among the commits, those that are out, and those that are finished; the mark has reached its
-- parent. With each commit each earlier record is committed that conflicts with it. In the order of the log the commits are of the first
-- records.
pub record AreCommitted (preserve : Bool) (log : List Record) (dispatched_ : ℕ) (commits_ out_ finished_ : List ℕ) (published_ : ℕ) : Type 0 where
  pub distinct : AreDistinct (commits_ ++ (out_ ++ finished_))
  pub each : (gno : ℕ) → has_gno (commits_ ++ (out_ ++ finished_)) gno ≡ (nat_le 1 gno && nat_le gno dispatched_)
  pub eligible : (gno : ℕ) (rec : Record) → 1 ≤ gno → gno ≤ dispatched_ → slice_get log (gno - 1) ≡ Some rec → rec.parent ≤ low_of commits_
  pub closed : IsClosed commits_ log
  pub shown : IsClosed (take published_ commits_) log
  pub in_order : preserve ≡ true → commits_ ≡ first_gnos (length commits_)

abbrev pub Committed : Setup → List Record → Pair → Type 0
Committed setup log pair = AreCommitted setup.preserve log pair.dispatched pair.commits pair.out pair.finished pair.published

-- of no numbers nothing is to be shown
closed_none : (log : List Record) → IsClosed [] log
closed_none log = λ front next rest e is. absurd (false≢true is)

pub committed_first : (setup : Setup) (log : List Record) → Committed setup log new_pair
committed_first setup log = record {
  distinct = tt;
  each = none;
  eligible = λ gno rec some within got. absurd (omega (arith, some, within));
  closed = closed_none log;
  shown = closed_none log;
  in_order = λ _. refl;
} where
  none : (gno : ℕ) → false ≡ (nat_le 1 gno && nat_le gno 0)
  none gno = grind (arith, nat_tests)

-- one more number, of a record that waited for those that conflict with it
closed_push : (log : List Record) (gnos : List ℕ) (gno : ℕ) → IsClosed gnos log →
    ((front : List Record) (rec : Record) (rest : List Record) → log ≡ front ++ rec ∷ rest → rec.gno ≡ gno → rec.parent ≤ low_of gnos) →
    ((front : List Record) (rec : Record) (rest : List Record) → log ≡ front ++ rec ∷ rest → rec.parent ≤ low_of gnos → AreChosen gnos front rec) → IsClosed (gnos ++ gno ∷ []) log
closed_push log gnos gno closed parent waits = λ front next rest e is.
    are_chosen_more gnos (gno ∷ []) front next
    (elim (among_pushed gnos gno next.gno is) [
      | inl old ↦ closed front next rest e old
      | inr same ↦ waits front next rest e (parent front next rest e (sym same))
    ])

module _ (setup : Setup) (log : List Record) (legal : IsLegalLog setup.tables (loaded setup.base) log) where
  numbered : AreNumbered 1 log
  numbered = part_is_numbered setup.tables (loaded setup.base) [] log legal

  -- where the mark has reached a record's parent, each earlier record is among the numbers that conflicts with it
  covered : (gnos : List ℕ) (rec : Record) → rec.parent ≤ low_of gnos → (before front behind : List Record) → log ≡ before ++ (front ++ behind) →
      Covers (map place_of front) (touched rec) rec.parent → AreChosen gnos front rec
  covered gnos rec low before [] behind e covers = tt
  covered gnos rec low before (r ∷ front) behind e covers =
      let its = legal before r (front ++ behind) e in (
        λ meet. (low_is_low gnos).all r.gno (omega (arith, its.gno)) (omega (arith, its.gno, its.sequence, covers.0 meet, low)),
        covered gnos rec low (before ++ r ∷ []) front behind (e ∙ sym (append_assoc before (r ∷ []) (front ++ behind))) covers.1,
      )

  legal_waits : (front rest : List Record) (rec : Record) (gnos : List ℕ) → log ≡ front ++ rec ∷ rest → rec.parent ≤ low_of gnos → AreChosen gnos front rec
  legal_waits front rest rec gnos split low = covered gnos rec low [] front (rec ∷ rest) split (legal front rec rest split).covers

  -- a job more
  pub job_more : (pair : Pair) (event : Event) (gno : ℕ) → Says setup log pair event (replies.Job gno) → Committed setup log pair → Committed setup log (next pair event (replies.Job gno))
  job_more pair event gno s c =
      let d = pair.dispatched in
      let new : has_gno (pair.commits ++ (pair.out ++ pair.finished)) gno ≡ false = c.each gno ∙ past_all gno d s.number in
      record {
        distinct = distinct_entered pair.commits pair.out pair.finished gno c.distinct new;
        each = λ other.
            has_gno_entered pair.commits pair.out pair.finished gno other ∙ ap (λ (b : Bool). b || (gno == other)) (c.each other) ∙ one_more d gno other s.number;
        eligible = λ other rec some within got. elim (cases_lt d other) [
          | inl last ↦ parent setup.preserve refl rec (subst (λ n. slice_get log n ≡ Some rec) (omega (arith, last, within)) got)
          | inr before ↦ c.eligible other rec some before got
        ];
        closed = c.closed;
        shown = c.shown;
        in_order = c.in_order;
      } where
        past_all : (g d : ℕ) → g ≡ d + 1 → (nat_le 1 g && nat_le g d) ≡ false
        past_all g d e = grind (arith, nat_tests)

        one_more : (d g other : ℕ) → g ≡ d + 1 → ((nat_le 1 other && nat_le other d) || (g == other)) ≡ (nat_le 1 other && nat_le other (d + 1))
        one_more d g other e = grind (arith, nat_tests)

        parent : (b : Bool) → setup.preserve ≡ b → (rec : Record) → slice_get log pair.dispatched ≡ Some rec → rec.parent ≤ low_of pair.commits
        parent true e rec got =
            let low : low_of pair.commits ≡ replica_committed pair = ap low_of (c.in_order e) ∙ low_of_first (length pair.commits) in
            omega (arith, low, s.in_order e rec got)
        parent false e rec got = s.in_any e rec got

  pub finish_more : (pair : Pair) (event : Event) (gno : ℕ) → Says setup log pair event (replies.Finished gno) → Committed setup log pair → Committed setup log (next pair event (replies.Finished gno))
  finish_more pair event gno s c = record {
    distinct = distinct_moved_behind pair.commits pair.out pair.finished gno c.distinct s;
    each = λ other. has_gno_moved_behind pair.commits pair.out pair.finished gno other s ∙ c.each other;
    eligible = c.eligible;
    closed = c.closed;
    shown = c.shown;
    in_order = c.in_order;
  }

  pub commit_more : (pair : Pair) (event : Event) (gno : ℕ) → Says setup log pair event (replies.Commit gno) → pair.published ≤ replica_committed pair → Committed setup log pair →
      Committed setup log (next pair event (replies.Commit gno))
  commit_more pair event gno s shown c =
      let bounds = and_parts _ _ (sym (c.each gno) ∙ has_gno_behind pair.commits (pair.out ++ pair.finished) gno (has_gno_behind pair.out pair.finished gno s.done)) in
      let some = leb-true 1 gno bounds.0 in
      let within = leb-true gno pair.dispatched bounds.1 in
      record {
        distinct = distinct_moved_front pair.commits pair.out pair.finished gno c.distinct s.done;
        each = λ other. has_gno_moved_front pair.commits pair.out pair.finished gno other s.done ∙ c.each other;
        eligible = λ other rec one upto got. omega (arith, c.eligible other rec one upto got, low_rises pair.commits (gno ∷ []));
        closed = closed_push log pair.commits gno c.closed
            (λ front rec rest e same. c.eligible gno rec some within (subst (λ n. slice_get log (n - 1) ≡ Some rec) same (record_at_number log front rest rec numbered e)))
            (λ front rec rest e low. legal_waits front rest rec pair.commits e low);
        shown = subst (λ (l : List ℕ). IsClosed l log) (sym (take-append-le pair.published pair.commits (gno ∷ []) shown)) c.shown;
        in_order = λ preserve.
            (λ i. c.in_order preserve i ++ s.in_order preserve i ∷ []) ∙ sym (first_gnos-next (length pair.commits)) ∙ ap first_gnos (sym (length-append pair.commits (gno ∷ [])));
      }

  pub publish_more : (pair : Pair) (event : Event) (upto : ℕ) → Says setup log pair event (replies.Published upto) → Committed setup log pair →
      Committed setup log (next pair event (replies.Published upto))
  publish_more pair event upto s c = record {
    distinct = c.distinct;
    each = c.each;
    eligible = c.eligible;
    closed = c.closed;
    shown = subst (λ (l : List ℕ). IsClosed l log) (sym (take_all upto pair.commits (omega (arith, s)))) c.closed;
    in_order = c.in_order;
  }

  -- ---- reads

  -- what a read answers, in any order, and in the order of the log
  pub record IsRead (pair : Pair) (id : RowId) (upto more : ℕ) (row : Option (List ℤ)) : Type 0 where
    pub mark : upto ≡ low_of (published_gnos pair)
    pub counted : upto + more ≡ pair.published
    pub row_is : row ≡ option_and_then (λ db. get db id) (gapped setup.tables (loaded setup.base) log (published_gnos pair))
    pub in_order : setup.preserve ≡ true → (upto ≡ pair.published) × (more ≡ 0) × (row ≡ option_and_then (λ db. get db id) (rows_after setup log pair.published))

  pub is_read : (pair : Pair) (id : RowId) (upto more : ℕ) (row : Option (List ℤ)) → pair.published ≤ replica_committed pair → Committed setup log pair →
      replies.Read upto more row ≡ read_reply setup log pair id →
      IsRead pair id upto more row
  is_read pair id upto more row shown c is = by setup.preserve refl is where
    p : ℕ
    p = pair.published

    gnos : List ℕ
    gnos = published_gnos pair

    row_of : Option Database → Option (List ℤ)
    row_of rows = option_and_then (λ db. get db id) rows

    by : (b : Bool) → setup.preserve ≡ b → replies.Read upto more row ≡ (if b then replies.Read p 0 (row_of (rows_after setup log p))
        else replies.Read (low_of gnos) (p - low_of gnos) (row_of (gapped setup.tables (loaded setup.base) log gnos))) →
        IsRead pair id upto more row
    by true e k =
        let same : (upto ≡ p) × (more ≡ 0) × (row ≡ row_of (rows_after setup log p)) = (cc k, cc k, cc k) in
        let first : gnos ≡ first_gnos p = ap (take p) (c.in_order e) ∙ take-first_gnos p (length pair.commits) shown in
        let rows : gapped setup.tables (loaded setup.base) log gnos ≡ rows_after setup log p =
        ap (gapped setup.tables (loaded setup.base) log) first ∙ ap (after setup.tables (loaded setup.base)) (first_are_chosen log p numbered) in
        record {
          mark = same.0 ∙ sym (ap low_of first ∙ low_of_first p);
          counted = omega (arith, same.0, same.1);
          row_is = same.2 ∙ ap row_of (sym rows);
          in_order = λ _. same;
        }
    by false e k =
        let same : (upto ≡ low_of gnos) × (more ≡ p - low_of gnos) × (row ≡ row_of (gapped setup.tables (loaded setup.base) log gnos)) = (cc k, cc k, cc k) in
        let few = low_is_few gnos (AreDistinct-take p pair.commits (AreDistinct_front pair.commits (pair.out ++ pair.finished) c.distinct)) in
        record {
          mark = same.0;
          counted = omega (arith, same.0, same.1, few, length-take-le p pair.commits shown);
          row_is = same.2;
          in_order = λ preserve. absurd (false≢true (sym e ∙ preserve));
        }

-- ---- groups

-- groups that follow one another, from the record behind this number up to that number
abbrev pub Follow : ℕ → List (ℕ × ℕ) → ℕ → Type 0
Follow from [] to = from ≡ to
Follow from (group ∷ groups) to = (group.0 ≡ from + 1) × (from ≤ group.1) × Follow group.1 groups to

pub Follow-le : (from : ℕ) (groups : List (ℕ × ℕ)) (to : ℕ) → Follow from groups to → from ≤ to
Follow-le from [] to h = omega (arith, h)
Follow-le from (group ∷ groups) to h = omega (arith, h.1, Follow-le group.1 groups to h.2)

Follow-push : (from : ℕ) (groups : List (ℕ × ℕ)) (to first last : ℕ) → Follow from groups to → first ≡ to + 1 → to ≤ last → Follow from (groups ++ (first, last) ∷ []) last
Follow-push from [] to first last h is up = (omega (arith, h, is), omega (arith, h, up), refl)
Follow-push from (group ∷ groups) to first last h is up = (h.0, h.1, Follow-push group.1 groups to first last h.2 is up)

-- ---- each moment

-- What holds of the source's numbers: the groups not yet synced are all records from the synced up to the flushed ones.
pub record SourceInOrder (log : List Record) (flushed_ : ℕ) (groups : List (ℕ × ℕ)) (synced_ source_committed_ : ℕ) : Type 0 where
  pub follow : Follow synced_ groups flushed_
  pub in_log : flushed_ ≤ length log
  pub committed_within : source_committed_ ≤ synced_

-- And of the jobs: what is dispatched was accepted, and is committed, out or finished.
pub record JobsInOrder (accepted_ dispatched_ : ℕ) (commits_ out_ finished_ : List ℕ) : Type 0 where
  pub within : dispatched_ ≤ accepted_
  pub counted : dispatched_ ≡ length commits_ + (length out_ + length finished_)

-- Holds of each state of a run: its numbers are in order, and the commits are closed.
pub record InOrder (preserve : Bool) (log : List Record) (flushed_ : ℕ) (groups : List (ℕ × ℕ)) (synced_ source_committed_ accepted_ dispatched_ : ℕ)
    (commits_ out_ finished_ : List ℕ) (published_ : ℕ) : Type 0 where
  pub source : SourceInOrder log flushed_ groups synced_ source_committed_
  pub delivered : accepted_ ≤ synced_
  pub jobs : JobsInOrder accepted_ dispatched_ commits_ out_ finished_
  pub shown : published_ ≤ length commits_
  pub committed : AreCommitted preserve log dispatched_ commits_ out_ finished_ published_

abbrev pub Holds : Setup → List Record → Pair → Type 0
Holds setup log pair = InOrder setup.preserve log pair.flushed pair.unsynced pair.synced pair.source_committed pair.accepted pair.dispatched pair.commits pair.out pair.finished pair.published

pub at_first : (setup : Setup) (log : List Record) → Holds setup log new_pair
at_first setup log = record {
  source = record { follow = refl; in_log = omega arith; committed_within = omega arith };
  delivered = omega arith;
  jobs = record { within = omega arith; counted = refl };
  shown = omega arith;
  committed = committed_first setup log;
}

-- the stamps of a flush are of records in the log
stamps_in_log : (log : List Record) (pair : Pair) (stamps : List (ℕ × ℕ)) → pair.flushed ≤ length log → stamps ≡ map stamp_of (next_records log pair) → pair.flushed + length stamps ≤ length log
stamps_in_log log pair stamps within are =
    let a = ap length are in
    let b = length-map (next_records log pair) stamp_of in
    let c = length-take (length pair.queue) (drop pair.flushed log) in
    let d = length-drop pair.flushed log in
    omega (arith, a, b, c, d, within)

-- the group that a sync tells of is the oldest that waits
pub oldest_of : (pair : Pair) (first last : ℕ) → (s : (groups : List (ℕ × ℕ)) × (pair.unsynced ≡ (first, last) ∷ groups)) → Follow pair.synced pair.unsynced pair.flushed →
    Follow pair.synced ((first, last) ∷ s.0) pair.flushed
oldest_of pair first last s follow = subst (λ g. Follow pair.synced g pair.flushed) s.1 follow

-- an allowed reply leaves them in order
pub step : (setup : Setup) (log : List Record) → IsLegalLog setup.tables (loaded setup.base) log → (pair : Pair) (event : Event) (reply : Reply) → Says setup log pair event reply →
    Holds setup log pair → Holds setup log (next pair event reply)
step setup log legal pair event (replies.Flushed first stamps) s h =
    let follow = Follow-push pair.synced pair.unsynced pair.flushed first (pair.flushed + length stamps) h.source.follow s.0 (omega arith) in
    let source : SourceInOrder log (pair.flushed + length stamps) (pair.unsynced ++ (first, pair.flushed + length stamps) ∷ []) pair.synced pair.source_committed =
    record { follow = follow; in_log = stamps_in_log log pair stamps h.source.in_log s.1; committed_within = h.source.committed_within } in
    record { source = source; delivered = h.delivered; jobs = h.jobs; shown = h.shown; committed = h.committed }
step setup log legal pair event (replies.Synced first last) s h =
    let all = oldest_of pair first last s h.source.follow in
    let follow = subst (λ g. Follow last (drop 1 g) pair.flushed) (sym s.1) all.2 in
    let source : SourceInOrder log pair.flushed (drop 1 pair.unsynced) last pair.source_committed =
    record { follow = follow; in_log = h.source.in_log; committed_within = omega (arith, h.source.committed_within, all.1) } in
    record { source = source; delivered = omega (arith, h.delivered, all.1); jobs = h.jobs; shown = h.shown; committed = h.committed }
step setup log legal pair event (replies.Committed first last) s h =
    let source : SourceInOrder log pair.flushed pair.unsynced pair.synced last = record { follow = h.source.follow; in_log = h.source.in_log; committed_within = omega (arith, s.1) } in
    record { source = source; delivered = h.delivered; jobs = h.jobs; shown = h.shown; committed = h.committed }
step setup log legal pair event replies.Accepted s h =
    let jobs : JobsInOrder (pair.accepted + 1) pair.dispatched pair.commits pair.out pair.finished = record { within = omega (arith, h.jobs.within); counted = h.jobs.counted } in
    record { source = h.source; delivered = omega (arith, s.2, s.3); jobs = jobs; shown = h.shown; committed = h.committed }
step setup log legal pair event (replies.Job gno) s h =
    let jobs : JobsInOrder pair.accepted (pair.dispatched + 1) pair.commits (pair.out ++ gno ∷ []) pair.finished =
    record { within = omega (arith, s.within); counted = omega (arith, h.jobs.counted, length-append pair.out (gno ∷ [])) } in
    record { source = h.source; delivered = h.delivered; jobs = jobs; shown = h.shown; committed = job_more setup log legal pair event gno s h.committed }
step setup log legal pair event (replies.Finished gno) s h =
    let jobs : JobsInOrder pair.accepted pair.dispatched pair.commits (without gno pair.out) (pair.finished ++ gno ∷ []) =
    record { within = h.jobs.within; counted = omega (arith, h.jobs.counted, length-without gno pair.out s, length-append pair.finished (gno ∷ [])) } in
    record { source = h.source; delivered = h.delivered; jobs = jobs; shown = h.shown; committed = finish_more setup log legal pair event gno s h.committed }
step setup log legal pair event (replies.Commit gno) s h =
    let more = length-append pair.commits (gno ∷ []) in
    let jobs : JobsInOrder pair.accepted pair.dispatched (pair.commits ++ gno ∷ []) pair.out (without gno pair.finished) =
    record { within = h.jobs.within; counted = omega (arith, h.jobs.counted, length-without gno pair.finished s.done, more) } in
    let committed = commit_more setup log legal pair event gno s h.shown h.committed in
    record { source = h.source; delivered = h.delivered; jobs = jobs; shown = omega (arith, h.shown, more); committed = committed }
step setup log legal pair event (replies.Published upto) s h =
    record { source = h.source; delivered = h.delivered; jobs = h.jobs; shown = omega (arith, s); committed = publish_more setup log legal pair event upto s h.committed }
step setup log legal pair event reply s h = h

-- in the words of the law
pub in_order : (setup : Setup) (log : List Record) (pair : Pair) → Holds setup log pair → AreInOrder log pair
in_order setup log pair h = record {
  published_within = h.shown;
  replica_committed_within = omega (arith, h.jobs.counted);
  dispatched_within = h.jobs.within;
  accepted_within = h.delivered;
  source_committed_within = h.source.committed_within;
  synced_within = Follow-le pair.synced pair.unsynced pair.flushed h.source.follow;
  flushed_within = h.source.in_log;
}

-- ---- what only grows

-- the numbers one by one: the published, committed at the replica, dispatched, accepted, committed, synced and flushed
abbrev RisesTo : Pair → Pair → Type 0
RisesTo before later =
    (before.published ≤ later.published) × (replica_committed before ≤ replica_committed later) × (before.dispatched ≤ later.dispatched) × (before.accepted ≤ later.accepted)
    × (before.source_committed ≤ later.source_committed) × (before.synced ≤ later.synced) × (before.flushed ≤ later.flushed)

-- the numbers, the commits at their end, and that the source is halted
pub record Grown (before later : Pair) : Type 0 where
  rises : RisesTo before later
  pub commits : IsPrefix before.commits later.commits
  pub halted : before.halted ≡ true → later.halted ≡ true

pub same : (pair : Pair) → Grown pair pair
same pair = record { rises = (omega arith, omega arith, omega arith, omega arith, omega arith, omega arith, omega arith); commits = prefix_refl pair.commits; halted = λ is. is }

pub onward : (a b c : Pair) → Grown a b → Grown b c → Grown a c
onward a b c h k = record {
  rises = (
    omega (arith, h.rises.0, k.rises.0),
    omega (arith, h.rises.1, k.rises.1),
    omega (arith, h.rises.2, k.rises.2),
    omega (arith, h.rises.3, k.rises.3),
    omega (arith, h.rises.4, k.rises.4),
    omega (arith, h.rises.5, k.rises.5),
    omega (arith, h.rises.6, k.rises.6),
  );
  commits = prefix_trans a.commits b.commits c.commits h.commits k.commits;
  halted = λ is. k.halted (h.halted is);
}

-- in the words of the law
pub none_falls : (before later : Pair) → Grown before later → NoneFalls before later
none_falls before later g = record {
  published_rises = g.rises.0;
  replica_committed_rises = g.rises.1;
  dispatched_rises = g.rises.2;
  accepted_rises = g.rises.3;
  source_committed_rises = g.rises.4;
  synced_rises = g.rises.5;
  flushed_rises = g.rises.6;
}

rise : (setup : Setup) (log : List Record) (pair : Pair) (event : Event) (reply : Reply) → Says setup log pair event reply → Holds setup log pair → RisesTo pair pair →
    RisesTo pair (next pair event reply)
rise setup log pair event (replies.Flushed first stamps) s h o = (o.0, o.1, o.2, o.3, o.4, o.5, omega arith)
rise setup log pair event (replies.Synced first last) s h o = (o.0, o.1, o.2, o.3, o.4, (oldest_of pair first last s h.source.follow).1, o.6)
rise setup log pair event (replies.Committed first last) s h o = (o.0, o.1, o.2, o.3, omega (arith, s.1, h.source.committed_within), o.5, o.6)
rise setup log pair event replies.Accepted s h o = (o.0, o.1, o.2, omega arith, o.4, o.5, o.6)
rise setup log pair event (replies.Job gno) s h o = (o.0, o.1, omega arith, o.3, o.4, o.5, o.6)
rise setup log pair event (replies.Commit gno) s h o = (o.0, omega (arith, length-append pair.commits (gno ∷ [])), o.2, o.3, o.4, o.5, o.6)
rise setup log pair event (replies.Published upto) s h o = (omega (arith, s, h.shown), o.1, o.2, o.3, o.4, o.5, o.6)
rise setup log pair event reply s h o = o

pub grows : (setup : Setup) (log : List Record) (pair : Pair) (event : Event) (reply : Reply) → Says setup log pair event reply → Holds setup log pair → Grown pair (next pair event reply)
grows setup log pair event reply s h = record { rises = rise setup log pair event reply s h (same pair).rises; commits = commits_grow reply; halted = halts reply } where
  commits_grow : (r : Reply) → IsPrefix pair.commits (next pair event r).commits
  commits_grow (replies.Commit gno) = (gno ∷ [], refl)
  commits_grow r = prefix_refl pair.commits

  halts : (r : Reply) → pair.halted ≡ true → (next pair event r).halted ≡ true
  halts (replies.Log fault) is = or_right (is_device fault) pair.halted is
  halts r is = is
