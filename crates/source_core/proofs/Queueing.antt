-- A session puts its prepared transaction last into the flush queue, and waits; who waits at each call that moves them.
use Rattle.std.proofs.Common.{◌≡◌, ◌∙◌, sym, ap, subst, refl, ℕ, ◌+◌, ◌-◌, ◌<◌, ◌≤◌, List, [], ◌∷◌, ◌++◌, length, length-append, set, slice_index_or, IsTrue, Bool, true, false, eqb, Option, Some}
use Rattle.std.proofs.Common.{None, arith, append_assoc, take, drop, ◌||◌}
use Rattle.std.specs.Prelude.{option_and_then}
use Rattle.std.specs.Option.{option_map}
use Rattle.std.specs.List.{list_any}
use Rattle.std.proofs.lemmas.Option.{same_Some}
use Rattle.std.proofs.lemmas.Cmp.{nat_eq_equiv}
use Rattle.std.proofs.lemmas.Bool.{or_left, or_right}
use Rattle.std.proofs.lemmas.Bool.Decides.{nat_tests}
use Rattle.std.proofs.lemmas.List.{get_or-set_same, take-append-le, drop-append-le, drop-drop, drop_all, length-take-le}
use Rattle.std.proofs.lemmas.List.Folds.{list_any-append}
use Rattle.std.proofs.lemmas.Map.Keys.{IsDistinct-push}
use Rattle.schema.proofs.Lists.{AllByRecursion-push, AllByRecursion-weaker}
use Rattle.commit_stages.specs.Queues.{Queues, queued as queued_last, is_waiting, flush_taken, oldest_size, sync_taken, commit_taken}
use Rattle.tracker_trait.specs.Kind.{Kind}
use Rattle.source_core.specs.declared.transaction.Phase.{Phase}
use Rattle.source_core.specs.declared.transaction.Phase.TheVariants.{Prepared, Queued, Flushed}
use Rattle.source_core.specs.declared.transaction.Transaction.{Transaction}
use Rattle.source_core.specs.Source.{Source, Open}
use Rattle.source_core.specs.Calls.{queued, queued_phase, with_open}
use Rattle.source_core.specs.Core.{Parts, IsCore, StandsAs, IsReady, IsQueued, AreQueued, course_of, source_of, open_view, pending_in, sessions_view, placed, prepared_order, with_phase, AreFlushed}
use Rattle.source_core.specs.Core.{Wait, Holds}
use Rattle.source_core.proofs.Stand.{open_at, not_any, each_flushed}
use Rattle.source_core.proofs.Place.{placing, place_set, queued_stay, locks_stay, view_set, read_there, found_again, IsFree, IsFreePhase, Grows, PlaceCall, phase_free}
use Rattle.std.proofs.Math.Seq.{take-add}
use Rattle.record_codec.specs.declared.records.Record.{Record}
use Rattle.source_core.proofs.Commit.Loops.{drop_parts}

-- ---- a queue in which no session comes twice

pub none_is : (places : List (Option Transaction)) (session : ℕ) (queue : List ℕ) → AreQueued places queue → IsFree (placed places (session - 1)) → list_any (eqb session) queue ≡ false
none_is places session queue are free =
    not_any queue session (AllByRecursion-weaker (IsQueued places) _
    (λ other q same. phase_free _ q.t (Queued q.order) free (ap (λ k. placed places (k - 1)) (sym same) ∙ q.place) q.phase) queue are)

-- ---- the transaction

-- a transaction whose order parent is told is prepared
pub record IsPrepared (o : Option Transaction) (order : ℕ) : Type 0 where
  pub t : Transaction
  pub is : o ≡ Some t
  pub phase : t.phase ≡ Prepared order

prepared_phase : (t : Transaction) (phase : Phase) (order : ℕ) → t.phase ≡ phase → prepared_order (with_phase phase t) ≡ Some order → t.phase ≡ Prepared order
prepared_phase t (Prepared parent) order e h = e ∙ ap Prepared (same_Some parent order h)
prepared_phase t _ order e h = cc

is_prepared_at : (o : Option Transaction) (order : ℕ) → option_and_then prepared_order o ≡ Some order → IsPrepared o order
is_prepared_at None order e = cc
is_prepared_at (Some t) order e = record { t = t; is = refl; phase = prepared_phase t t.phase order refl e }

-- the stages with the session last in the queue
abbrev pub behind : Parts → ℕ → Queues
behind p session = queued_last p.stages session

grows : (queue : List ℕ) (session : ℕ) → Grows queue (queue ++ session ∷ [])
grows queue session q is = list_any-append (eqb q) queue (session ∷ []) ∙ or_left (list_any (eqb q) queue) _ is

in_queue : (queue : List ℕ) (session : ℕ) → IsTrue (list_any (eqb session) (queue ++ session ∷ []))
in_queue queue session = list_any-append (eqb session) queue (session ∷ []) ∙ or_right (list_any (eqb session) queue) _ (or_left (eqb session session) false (itself session))
  where
    itself : (n : ℕ) → eqb n n ≡ true
    itself n = grind (arith, nat_tests)

module _ {p : Parts} {i session : ℕ} {read found : Option Transaction} (c : PlaceCall p i session read found) (order : ℕ) (told : option_and_then prepared_order read ≡ Some order) where
  open c use {core, is, within}

  w : IsPrepared (placed p.places i) order
  w = is_prepared_at (placed p.places i) order (ap (option_and_then prepared_order) (read_there c) ∙ told)

  free : IsFree (placed p.places i)
  free = subst (λ (x : Option Transaction). IsFree x) (sym w.is) (subst (λ (x : Phase). IsFreePhase x) (sym w.phase) tt)

  abbrev its : Transaction
  its = with_phase (Queued order) w.t

  abbrev now : Option Transaction
  now = Some its

  back : session - 1 ≡ i
  back = omega (arith, is)

  -- the session's transaction is neither queued nor flushed before
  pub free_before : IsFree (placed p.places (session - 1))
  free_before = subst (λ k. IsFree (placed p.places k)) (sym back) free

  ready : IsReady p.log p.committed p.entries (i + 1) w.t.pending order
  ready = subst (λ (x : Phase). StandsAs (course_of p) (i + 1) w.t.pending x) w.phase (core.stands i w.t w.is)

  one : IsQueued (set p.places i now) session
  one = record {
    least = omega (arith, is);
    t = its;
    order = order;
    place = ap (placed (set p.places i now)) back ∙ get_or-set_same p.places i now None (omega (arith, within, core.sessions));
    phase = refl;
  }

  -- what is found in the place is the transaction, and it is queued now
  next_is : (next : Option Transaction) → next ≡ option_map (with_phase (Queued order)) found → next ≡ now
  next_is next next_told = next_told ∙ ap (option_map (with_phase (Queued order))) (found_again c ∙ sym (read_there c) ∙ w.is)

  pub queued_at : (next : Option Transaction) → next ≡ option_map (with_phase (Queued order)) found → (stages : Queues) → stages ≡ behind p session → length p.log + length p.stages.flush < p.limit →
      IsCore (placing p i next stages p.locks)
  queued_at next next_told stages stages_are few =
      let count : length (behind p session).flush ≡ length p.stages.flush + 1 = length-append p.stages.flush (session ∷ []) in
      rw (stages_are, next_is next next_told)
      (place_set p core i within now free (behind p session)
      (record {
        sizes = refl;
        few = omega (arith, few, count);
        queued = AllByRecursion-push (IsQueued (set p.places i now)) p.stages.flush session (queued_stay p.places i now free p.stages.flush core.queued) one;
        distinct = IsDistinct-push nat_eq_equiv p.stages.flush session core.distinct (none_is p.places session p.stages.flush core.queued free_before);
        grows = grows p.stages.flush session;
      })
      p.locks (locks_stay p core i now (sym (ap pending_in w.is)))
      (core.no_clash, core.no_mark_clash)
      (core.applies i w.t w.is, (ready, subst (λ k. IsTrue (list_any (eqb k) (behind p session).flush)) (sym is) (in_queue p.stages.flush session))))

  pub queued_at_view : (kind : Kind) (halted : Bool) (next : Option Transaction) → next ≡ option_map (with_phase (Queued order)) found → (stages : Queues) → stages ≡ behind p session →
      source_of (placing p i next stages p.locks) kind halted ≡ queued (source_of p kind halted) session
  queued_at_view kind halted next next_told stages stages_are =
      rw (stages_are, next_is next next_told)
      (ap (λ (s : Source). record s { queue = (behind p session).flush }) (view_set p core kind halted i session now p.locks is)
      ∙ ap (λ (o : Option Open). record (with_open (source_of p kind halted) session o) { queue = (behind p session).flush }) (sym opened))
    where
      opened : option_map {U = Open} (λ (t : Open). record { changes = t.changes; phase = queued_phase t.phase }) (slice_index_or (sessions_view p.places) (session - 1) None)
          ≡ Some (record { changes = w.t.pending.changes; phase = Queued order })
      opened =
          ap (option_map {U = Open} (λ (t : Open). record { changes = t.changes; phase = queued_phase t.phase })) (open_at p kind halted i session is ∙ ap (option_map open_view) w.is)
          ∙ ap (λ (x : Phase). Some (record { changes = w.t.pending.changes; phase = queued_phase x })) w.phase

-- ---- the sessions that wait for the sync and for the commit of their records, at each call that moves them

-- ---- who does not wait

-- a session whose transaction is neither queued nor flushed owns none of these records
owns_none : (p : Parts) (session n : ℕ) (log : List Record) (owners : List ℕ) → AreFlushed p.places n log owners → IsFree (placed p.places (session - 1)) →
    list_any (eqb session) owners ≡ false
owns_none p session n log owners are free =
    not_any owners session (each_flushed p.places (λ owner. owner ≡ session → ⊥) (λ made. Unit {0}) n log owners
    (λ k made owner le lt f. ((λ same. phase_free _ f.t (Flushed k) free (ap (λ s. placed p.places (s - 1)) (sym same) ∙ f.place) f.phase), tt)) are).0

-- and waits for nothing
pub waits_not : (p : Parts) (IsSo : Type 0) → Holds p IsSo → (session : ℕ) → IsFree (placed p.places (session - 1)) → is_waiting p.stages session ≡ false
waits_not p IsSo h session free =
    ap (λ l. list_any (eqb session) l) line
    ∙ list_any-append (eqb session) (drop p.committed p.owners) p.stages.flush
    ∙ (λ i. owns_none p session (p.committed + 1) (drop p.committed p.log) (drop p.committed p.owners) h.core.flushed free i || none_is p.places session p.stages.flush h.core.queued free i)
  where
    line : p.stages.commit ++ (p.stages.sync ++ p.stages.flush) ≡ drop p.committed p.owners ++ p.stages.flush
    line =
        sym (append_assoc p.stages.commit p.stages.sync p.stages.flush)
        ∙ (λ i. (h.waits.committing i ++ h.waits.syncing i) ++ p.stages.flush)
        ∙ ap (λ l. l ++ p.stages.flush) (sym (drop_parts p.committed p.synced p.owners h.core.committed_within))

-- ---- who waits, where owners and counts are others

-- one more session that is queued does not change these
pub wait_queued : (stages more : Queues) (owners : List ℕ) (synced_ committed_ session : ℕ) → Wait stages owners synced_ committed_ → more ≡ queued_last stages session →
    Wait more owners synced_ committed_
wait_queued stages more owners synced_ committed_ session w is = record { syncing = ap (λ (q : Queues). q.sync) is ∙ w.syncing; committing = ap (λ (q : Queues). q.commit) is ∙ w.committing }

pub wait_flushed : (stages more : Queues) (owners longer : List ℕ) (synced_ committed_ : ℕ) → Wait stages owners synced_ committed_ → synced_ ≤ length owners → more ≡ flush_taken stages →
    longer ≡ owners ++ stages.flush → Wait more longer synced_ committed_
wait_flushed stages more owners longer synced_ committed_ w within is longer_is = record {
  syncing = ap (λ (q : Queues). q.sync) is ∙ ap (λ l. l ++ stages.flush) w.syncing ∙ sym (ap (drop synced_) longer_is ∙ drop-append-le synced_ owners stages.flush within);
  committing = ap (λ (q : Queues). q.commit) is ∙ w.committing ∙ sym (ap (λ l. drop committed_ (take synced_ l)) longer_is ∙ ap (drop committed_) (take-append-le synced_ owners stages.flush within));
}

pub wait_synced : (stages more : Queues) (owners : List ℕ) (synced_ committed_ last : ℕ) → Wait stages owners synced_ committed_ → committed_ ≤ synced_ → synced_ + oldest_size stages ≡ last →
    last ≤ length owners → more ≡ sync_taken stages →
    Wait more owners last committed_
wait_synced stages more owners synced_ committed_ last w few sum within is = record {
  syncing = ap (λ (q : Queues). q.sync) is ∙ ap (drop (oldest_size stages)) w.syncing ∙ drop-drop (oldest_size stages) synced_ owners ∙ ap (λ n. drop n owners) sum;
  committing = ap (λ (q : Queues). q.commit) is ∙ (λ i. w.committing i ++ take (oldest_size stages) (w.syncing i))
      ∙ sym (drop-append-le committed_ (take synced_ owners) (take (oldest_size stages) (drop synced_ owners)) (omega (arith, few, sum, within, length-take-le synced_ owners)))
      ∙ ap (drop committed_) (sym (take-add synced_ (oldest_size stages) owners))
      ∙ ap (λ n. drop committed_ (take n owners)) sum;
}

pub wait_committed : (stages more : Queues) (owners : List ℕ) (synced_ committed_ : ℕ) → Wait stages owners synced_ committed_ → synced_ ≤ length owners → more ≡ commit_taken stages →
    Wait more owners synced_ synced_
wait_committed stages more owners synced_ committed_ w within is = record {
  syncing = ap (λ (q : Queues). q.sync) is ∙ w.syncing;
  committing = ap (λ (q : Queues). q.commit) is ∙ sym (drop_all synced_ (take synced_ owners) (omega (arith, length-take-le synced_ owners within)));
}
