-- What readers are shown, in the words of the machine.
use mathlib.Core.List.{IsPrefix}
use Rattle.std.proofs.Common.{◌≡◌, ◌∙◌, sym, ap, subst, ℕ, ◌+◌, ◌≤◌, true, List, ◌++◌, length, take, drop, Some, arith}
use Rattle.std.proofs.lemmas.List.{take-append-drop, take-append-le, take-take, length-take-le}
use Rattle.rows.specs.Database.{Database}
use Rattle.record_codec.specs.declared.records.Record.{Record}
use Rattle.record_codec.specs.Group.{AreNumbered}
use Rattle.record_codec.specs.Log.{after}
use Rattle.store_trait.specs.Operation.{loaded}
use Rattle.scheduler.specs.Gnos.{low_of, first_gnos}
use Rattle.scheduler.proofs.Gnos.{low_of_first, take-first_gnos, has_gno-take}
use Rattle.gapped.specs.Gapped.{gapped, chosen, records_at}
use Rattle.gapped.proofs.Choosing.{AreWithin, commits_are_within, longer_log, records_at_joined, records_at_take, records_of_first}
use Rattle.replica_core.specs.Replica.{Replica, ran}
use Rattle.replica_core.specs.Sound.{IsSound}
use Rattle.replica_core.proofs.Showing.{sound_stands, numbered_of, state_at}
use Rattle.published.specs.Plain.{Shown}
use Rattle.world.specs.Pair.{Pair, published_gnos}
use Rattle.world.specs.Legal.{Setup, replica_at, rows_after}
use Rattle.world.specs.State.{World, IsWorld, Stands}
use Rattle.world.proofs.Parts.{take_longer}

-- ---- the replica's side

-- its commits are of records that it accepted
pub commits_within : (r : Replica) → IsSound r → AreWithin r.commits r.accepted
commits_within r sound = commits_are_within r.tables (loaded r.base) r.accepted r.commits (numbered_of r.tables r.accepted sound.accepted) sound.commits

-- what the published commits left one after another is their gapped state
pub gapped_rows : {D R : Type 0} (contents : R → Database) (w : World D R) → IsWorld contents w → IsSound w.replica →
    gapped w.replica.tables (loaded w.replica.base) w.replica.accepted (take w.replica.published w.replica.commits) ≡ Some (contents w.shown.store)
gapped_rows contents w h sound =
    let r = w.replica in
    let state = state_at r r.published (sound_stands r sound) in
    let same = sym state.ran ∙ ap (after r.tables (loaded r.base)) (records_at_take r.accepted r.commits r.published (commits_within r sound)) ∙ h.readers.ran in
    state.rows ∙ same

-- in the order of the log the first commits are of the first records
first_ran : (log : List Record) (p k : ℕ) → p ≤ k → p ≤ length log → take p (records_at log (first_gnos k)) ≡ take p log
first_ran log p k le there =
    let parts : first_gnos k ≡ first_gnos p ++ drop p (first_gnos k) = sym (take-append-drop p (first_gnos k)) ∙ ap (λ (l : List ℕ). l ++ drop p (first_gnos k)) (take-first_gnos p k le) in
    ap (λ (l : List ℕ). take p (records_at log l)) parts
    ∙ ap (take p) (records_at_joined log (first_gnos p) (drop p (first_gnos k)) ∙ ap (λ (l : List Record). l ++ records_at log (drop p (first_gnos k))) (records_of_first log p there))
    ∙ take-append-le p (take p log) (records_at log (drop p (first_gnos k))) (omega (arith, length-take-le p log there))
    ∙ take-take p p log (omega arith)

-- so readers see the source's rows after as many records as they are told
pub record ShowsFirst {D R : Type 0} (contents : R → Database) (w : World D R) : Type 0 where
  pub upto : w.shown.upto ≡ w.replica.published
  pub more : w.shown.more ≡ 0
  pub rows : after w.source.tables (loaded w.source.base) (take w.replica.published w.source.log) ≡ Some (contents w.shown.store)

pub shows_first : {D R : Type 0} (contents : R → Database) (w : World D R) → IsWorld contents w → w.replica.preserve ≡ true → ShowsFirst contents w
shows_first contents w h preserve =
    let r = w.replica in
    let p = r.published in
    let first = h.replica.in_order preserve in
    let le : p ≤ length r.commits = omega (arith, h.readers.later, h.readers.done) in
    let upto : w.shown.upto ≡ p = h.readers.mark ∙ ap low_of (ap (take p) first ∙ take-first_gnos p (length r.commits) le) ∙ low_of_first p in
    let front : take p (ran r) ≡ take p w.source.log =
    ap (λ (l : List ℕ). take p (records_at r.accepted l)) first ∙ first_ran r.accepted p (length r.commits) le h.readers.there
    ∙ ap (take p) h.wire.front ∙ take-take p (length r.accepted) w.source.log h.readers.there in
    record {
      upto = upto;
      more = omega (arith, upto, h.readers.counted);
      rows = (λ i. after (sym h.replica.tables i) (loaded (sym h.replica.base i)) (sym front i)) ∙ h.readers.ran;
    }

-- ---- in the words of the machine

-- in the order of the log
pub record TellsFirst {R : Type 0} (contents : R → Database) (setup : Setup) (pair : Pair) (log : List Record) (shown : Shown R) : Type 0 where
  pub upto : shown.upto ≡ pair.published
  pub more : shown.more ≡ 0
  pub rows : rows_after setup log pair.published ≡ Some (contents shown.store)

-- in any order
pub record ShowsState {R : Type 0} (contents : R → Database) (setup : Setup) (pair : Pair) (log : List Record) (shown : Shown R) : Type 0 where
  pub mark : shown.upto ≡ low_of (published_gnos pair)
  pub counted : shown.upto + shown.more ≡ pair.published
  pub rows : gapped setup.tables (loaded setup.base) log (published_gnos pair) ≡ Some (contents shown.store)
  pub in_order : setup.preserve ≡ true → TellsFirst contents setup pair log shown

-- records that come later change no gapped state
same_gapped : (r : Replica) (log : List Record) (n : ℕ) → IsSound r → IsPrefix r.accepted log → AreNumbered 1 log → chosen (take n r.commits) log ≡ chosen (take n r.commits) r.accepted
same_gapped r log n sound longer numbered =
    let gnos = take n r.commits in
    ap (chosen gnos) (sym longer.1)
    ∙ longer_log r.accepted longer.0 gnos (subst (λ (l : List Record). AreNumbered 1 l) (sym longer.1) numbered) (λ gno is. (commits_within r sound gno (has_gno-take n r.commits gno is)).1)

-- what is accepted is a beginning of the log
accepted_begins : {D R : Type 0} (contents : R → Database) (w : World D R) (log : List Record) → IsWorld contents w → IsPrefix w.source.log log → IsPrefix w.replica.accepted log
accepted_begins contents w log h longer =
    let n = length w.replica.accepted in
    let front : take n log ≡ w.replica.accepted =
    take_longer w.source.log log longer n (omega (arith, h.wire.within, h.source.sound.synced_within)) ∙ sym h.wire.front in
    (drop n log, ap (λ (l : List Record). l ++ drop n log) (sym front) ∙ take-append-drop n log)

pub shows_state : {D R : Type 0} (contents : R → Database) (setup : Setup) (pair : Pair) (w : World D R) (log : List Record) → IsWorld contents w → IsSound w.replica → Stands setup pair w →
    IsPrefix w.source.log log → AreNumbered 1 log →
    ShowsState contents setup pair log w.shown
shows_state contents setup pair w log h sound st longer numbered =
    let same : replica_at setup w.source.log pair ≡ w.replica = sym st.replica.is in
    let gnos : published_gnos pair ≡ take w.replica.published w.replica.commits = ap (λ (r : Replica). take r.published r.commits) same in
    let number : pair.published ≡ w.replica.published = ap (λ (r : Replica). r.published) same in
    record {
      mark = h.readers.mark ∙ ap low_of (sym gnos);
      counted = h.readers.counted ∙ sym number;
      rows =
          (λ i. after (same i).tables (loaded (same i).base) (chosen (gnos i) log))
          ∙ ap (after w.replica.tables (loaded w.replica.base)) (same_gapped w.replica log w.replica.published sound (accepted_begins contents w log h longer) numbered)
          ∙ gapped_rows contents w h sound;
      in_order = λ preserve.
          let s = shows_first contents w h (sym (ap (λ (r : Replica). r.preserve) same) ∙ preserve) in
          let front : take pair.published log ≡ take w.replica.published w.source.log =
          ap (λ n. take n log) number ∙ take_longer w.source.log log longer w.replica.published (omega (arith, h.readers.there, h.wire.within, h.source.sound.synced_within)) in
          record {
            upto = s.upto ∙ sym number;
            more = s.more;
            rows =
                (λ i. after ((ap (λ (r : Replica). r.tables) same ∙ h.replica.tables) i) (loaded ((ap (λ (r : Replica). r.base) same ∙ h.replica.base) i)) (front i))
                ∙ s.rows;
          };
    }
