-- The event by which the log goes on in a next file.
use base.Growing.{prefix_refl}
use Rattle.std.proofs.Common.{◌≡◌, ◌∙◌, sym, ap, subst, refl, ℕ, ◌+◌, ◌<◌, Bool, true, false, not, nat_le, List, [], ◌∷◌, ◌++◌, length, length-append, map, append_assoc, inl, inr, arith, ◌⊎◌}
use Rattle.std.specs.Prelude.{nat_lt}
use Rattle.std.proofs.lemmas.Bool.Decides.{nat_tests}
use Rattle.std.proofs.lemmas.Bool.{and_from}
use Rattle.std.proofs.lemmas.List.{length-map, map-append}
use Rattle.rows.specs.Database.{Database}
use Rattle.source_core.specs.declared.fault.SourceFault.TheVariants as faults_of
use Rattle.source_core.specs.Source.{Source}
use Rattle.source_core.specs.Calls.{is_busy, halted as halted_source}
use Rattle.log_file.specs.declared.fault.LogFault.{LogFault}
use Rattle.log_file.specs.declared.fault.LogFault.TheVariants as log_file
use Rattle.log_file.specs.Head.{next_of}
use Rattle.log_file.specs.Log.{Log, Kept}
use Rattle.log_file.specs.Flushed.{IsFlushedOf, kept_of}
use Rattle.log_file.specs.Calls.{ends as ends_of}
use Rattle.log_set.specs.Set.{SetOn, IsRotated}
use Rattle.world.specs.declared.events.Event.TheVariants as events
use Rattle.world.specs.declared.events.Reply.{Reply}
use Rattle.world.specs.declared.events.Reply.TheVariants as replies
use Rattle.world.specs.Pair.{Pair, busy}
use Rattle.world.specs.Legal.{Setup, RotateAnswers, is_full}
use Rattle.world.specs.Put.{IsNotRotated, FailsToRotate, OneFailed}
use Rattle.world.specs.State.{World, IsWorld, Stands, Goes, set_of, TellsFailure}
use Rattle.world.proofs.Parts.{stays, halted_as, asks_of, wire_with, replica_with, fails_goes, devices_go}
use Rattle.world.proofs.Counting.{one_of_two, tells_one, tells_none}

-- ---- refused before a device is asked

-- the state says that the source is busy where it is
busy_as : {D R : Type 0} (setup : Setup) (pair : Pair) (w : World D R) → Stands setup pair w → busy pair ≡ is_busy w.source
busy_as setup pair w st = λ i. nat_lt (sym (ap (λ (s : Source). s.committed) st.source.is) i) (st.source.flushed i)

-- and how many files there are
files_as : {D R : Type 0} (setup : Setup) (pair : Pair) (w : World D R) → Stands setup pair w → length pair.firsts ≡ length w.wire.firsts
files_as setup pair w st = ap (λ (l : List ℕ). length l) (sym st.wire.firsts)

pub rotate_halted : {D R : Type 0} (contents : R → Database) (w : World D R) → IsWorld contents w → w.source.halted ≡ true → Goes contents w events.Rotate (replies.Source faults_of.Halted) w
rotate_halted contents w h halts = stays contents w _ _ h refl (λ pair. refl) (λ setup pair log st
    longer numbered.
    inr (subst (λ b. RotateAnswers b (busy pair) (is_full pair) (length pair.firsts) (replies.Source faults_of.Halted)) (sym (halted_as setup pair w true st halts)) refl))

-- what a source that runs may answer
running_answer : {D R : Type 0} (setup : Setup) (pair : Pair) (w : World D R) (busies full : Bool) (files : ℕ) (reply : Reply) → Stands setup pair w → w.source.halted ≡ false →
    is_busy w.source ≡ busies →
    length w.wire.firsts ≡ files → nat_le 16 files ≡ full → RotateAnswers false busies full files reply → RotateAnswers pair.halted (busy pair) (is_full pair) (length pair.firsts) reply
running_answer setup pair w busies full files reply st runs busy_is many full_is answer =
    let number : length pair.firsts ≡ files = files_as setup pair w st ∙ many in
    subst (λ b. RotateAnswers b (busy pair) (is_full pair) (length pair.firsts) reply) (sym (halted_as setup pair w false st runs))
    (subst (λ b. RotateAnswers false b (is_full pair) (length pair.firsts) reply) (sym (busy_as setup pair w st ∙ busy_is))
    (subst (λ b. RotateAnswers false busies b (length pair.firsts) reply) (sym (ap (nat_le 16) number ∙ full_is))
    (subst (λ n. RotateAnswers false busies full n reply) (sym number) answer)))

pub rotate_busy : {D R : Type 0} (contents : R → Database) (w : World D R) → IsWorld contents w → w.source.halted ≡ false → is_busy w.source ≡ true → Goes contents w events.Rotate replies.Busy w
rotate_busy contents w h runs busies = stays contents w _ _ h refl (λ pair. refl) (λ setup pair log st longer numbered.
    inr (running_answer setup pair w true (nat_le 16 (length w.wire.firsts)) (length w.wire.firsts) replies.Busy st runs busies refl refl refl))

full_at : (files spares : ℕ) → files + spares ≡ 16 → spares ≡ 0 → nat_le 16 files ≡ true
full_at files spares all none = grind (arith, nat_tests)

room_at : (files spares : ℕ) → files + spares ≡ 16 → 0 < spares → nat_le 16 files ≡ false
room_at files spares all some = grind (arith, nat_tests)

pub rotate_none : {D R : Type 0} (contents : R → Database) (w : World D R) → IsWorld contents w → w.source.halted ≡ false → is_busy w.source ≡ false → w.wire.spare ≡ [] →
    Goes contents w events.Rotate replies.NoDevice w
rotate_none contents w h runs idle none = stays contents w _ _ h refl (λ pair. refl) (λ setup pair log st longer numbered.
    inr (running_answer setup pair w false true (length w.wire.firsts) replies.NoDevice st runs idle refl
    (full_at (length w.wire.firsts) (length w.wire.spare) h.wire.places (ap (λ (l : List _). length l) none)) refl))

-- and what is left of the spare devices are none
abbrev pub with_spare : {D R : Type 0} → World D R → List D → World D R
with_spare w spare = record w { wire = record w.wire { spare = spare } }

pub rotate_none_on : {D R : Type 0} (contents : R → Database) (w : World D R) (spare : List D) → IsWorld contents w → w.source.halted ≡ false → is_busy w.source ≡ false → w.wire.spare ≡ [] →
    spare ≡ [] →
    Goes contents w events.Rotate replies.NoDevice (with_spare w spare)
rotate_none_on {D} {R} contents w spare h runs idle none left =
    subst (λ (l : List D). Goes {R = R} contents w events.Rotate replies.NoDevice (with_spare w l)) (none ∙ sym left) (rotate_none contents w h runs idle none)

-- ---- a rotation

-- a rotation of a source that runs and is not busy: the first spare device, and the others
pub record RotateCall {D R : Type 0} (contents : R → Database) (w : World D R) : Type 0 where
  pub world : IsWorld contents w
  pub runs : w.source.halted ≡ false
  pub idle : is_busy w.source ≡ false
  pub given : D
  pub others : List D
  pub spares : w.wire.spare ≡ given ∷ others

abbrev pub rotate_call : {D R : Type 0} (contents : R → Database) (w : World D R) {given : D} {others : List D} → IsWorld contents w → w.source.halted ≡ false → is_busy w.source ≡ false →
    w.wire.spare ≡ given ∷ others → RotateCall contents w
rotate_call contents w {given} {others} h runs idle spares = record { world = h; runs = runs; idle = idle; given = given; others = others; spares = spares }

-- there is room for one file more
room_of : {D R : Type 0} (contents : R → Database) (w : World D R) (c : RotateCall contents w) → nat_le 16 (length w.wire.firsts) ≡ false
room_of contents w c = room_at (length w.wire.firsts) (length w.wire.spare) c.world.wire.places (omega (arith, ap (λ (l : List _). length l) c.spares))

-- the world behind it whose log is this set
abbrev pub rotated_to : {D R : Type 0} → World D R → Source → SetOn D → List D → World D R
rotated_to w next set spare =
    record w { source = next; wire = record w.wire { log = set.log; firsts = set.firsts; starts = set.starts; past = set.past; device = set.device; spare = spare } }

-- the next file begins behind what is synced
next_first : {D R : Type 0} (setup : Setup) (pair : Pair) (w : World D R) → Stands setup pair w → w.wire.log.head.first ≡ 1 → length w.wire.log.records ≡ w.source.synced →
    next_of w.wire.log.head w.wire.log.records ≡ pair.synced + 1
next_first setup pair w st first many = omega (arith, first, many, ap (λ (s : Source). s.synced) st.source.is)

-- the log goes on in a next file
pub rotate_goes : {D R : Type 0} (contents : R → Database) (seen : D → List ℕ) (faults : D → ℕ) (w : World D R) (c : RotateCall contents w) (set : SetOn D) (spare : List D) (number : ℕ) →
    IsRotated seen faults (set_of w.wire) c.given set → spare ≡ c.others → number ≡ length set.firsts →
    Goes contents w events.Rotate (replies.Rotated number) (rotated_to w w.source set spare)
rotate_goes contents seen faults w c set spare number is rest counted =
    let h = c.world in
    let many : length set.firsts ≡ length w.wire.firsts + 1 =
    omega (arith, ap (λ (l : List ℕ). length l) is.firsts, length-append w.wire.firsts (next_of w.wire.log.head w.wire.log.records ∷ [])) in
    let head : set.log.head ≡ w.wire.log.head = ap (λ (l : Log). l.head) is.log in
    let groups : set.log.groups ≡ w.wire.log.groups = ap (λ (l : Log). l.groups) is.log in
    record {
      world = record {
        source = h.source;
        wire = wire_with h.wire (subst (λ (k : Kept). IsFlushedOf w.source.log w.source.synced w.source.group_sizes k w.wire.unsynced) (sym (ap kept_of is.log)) h.wire.flushed) groups head
            (ap (λ (l : Log). l.finished) is.log) (ap (λ (l : Log). l.failed) is.log ∙ h.wire.failed)
            (λ runs. ap (λ (l : Log). l.waiting) is.log ∙ h.wire.ready (sym (ap (λ (l : Log). l.failed) is.log) ∙ runs))
            (omega (arith, many, h.wire.places, ap (λ (l : List _). length l) c.spares, ap (λ (l : List _). length l) rest));
        replica = replica_with contents w set.log.head head h;
        jobs = h.jobs;
        readers = h.readers;
      };
      grows = prefix_refl w.source.log;
      still = λ a other. absurd (other refl);
      stands = λ setup pair st.
          let before : length (map ends_of w.wire.log.groups) ≡ length w.wire.log.groups = length-map w.wire.log.groups ends_of in
          record {
            source = st.source;
            wire = record {
              head = head ∙ st.wire.head;
              unsynced = st.wire.unsynced;
              synced = ap (map ends_of) groups ∙ st.wire.synced;
              firsts = is.firsts ∙ (λ i. st.wire.firsts i ++ (next_first setup pair w st h.wire.flushed.first h.wire.flushed.many i) ∷ []);
              starts = is.starts ∙ (λ i. st.wire.starts i ++ ((sym before ∙ ap (λ (l : List (ℕ × ℕ)). length l) st.wire.synced) i) ∷ []);
            };
            replica = st.replica;
          };
      allowed = λ setup pair log st longer numbered.
          inr (running_answer setup pair w false false (length w.wire.firsts) (replies.Rotated number) st c.runs c.idle refl (room_of contents w c) (inl (ap replies.Rotated (counted ∙ many))));
    }

-- A device failed: the source is halted, and the log has the files that it had.
rotate_fails : {D R : Type 0} (contents : R → Database) (faults : D → ℕ) (w : World D R) (c : RotateCall contents w) (set : SetOn D) (back : D) (next : Source) →
    FailsToRotate faults (set_of w.wire) c.given set back → next ≡ halted_source w.source →
    Goes contents w events.Rotate (replies.Log log_file.Device) (rotated_to w next set (back ∷ c.others))
rotate_fails {D} {R} contents faults w c set back next failed next_is =
    let kept : kept_of w.wire.log ≡ kept_of set.log =
    λ i. record { head = sym failed.head i; records = sym failed.records i; groups = sym failed.groups i; prepared = sym failed.waiting i } in
    subst (λ (q : Source). Goes {R = R} contents w events.Rotate (replies.Log log_file.Device) (rotated_to w q set (back ∷ c.others))) (sym next_is)
    (fails_goes contents w events.Rotate (rotated_to w next set (back ∷ c.others)).wire c.world
    (record {
      head = failed.head;
      groups = failed.groups;
      goes = failed.goes;
      firsts = failed.files.firsts;
      starts = failed.files.starts;
      unsynced = refl;
      spares = sym (ap (λ (l : List D). length l) c.spares);
    }) failed.failed
    (subst (λ (k : Kept). IsFlushedOf w.source.log w.source.synced w.source.group_sizes k w.wire.unsynced) kept c.world.wire.flushed) (λ pair. refl) (λ a other. other refl)
    (λ setup pair log st longer numbered.
    inr (running_answer setup pair w false false (length w.wire.firsts) (replies.Log log_file.Device) st c.runs c.idle refl (room_of contents w c) (inr refl))))

-- want of memory changes nothing but the device
rotate_memory : {D R : Type 0} (contents : R → Database) (w : World D R) (c : RotateCall contents w) (set : SetOn D) (back : D) → set ≡ set_of w.wire →
    Goes contents w events.Rotate (replies.Log log_file.Memory) (rotated_to w w.source set (back ∷ c.others))
rotate_memory {D} contents w c set back same =
    devices_go contents w events.Rotate (rotated_to w w.source set (back ∷ c.others)).wire c.world (ap (λ (s : SetOn D). s.log) same) (ap (λ (s : SetOn D). s.firsts) same)
    (ap (λ (s : SetOn D). s.starts) same) refl (sym (ap (λ (l : List D). length l) c.spares)) (λ pair. refl) (λ a other. other refl)
    (λ setup pair log st longer numbered.
    let idle : not (busy pair) ≡ true = ap not (busy_as setup pair w st ∙ c.idle) in
    let some : not (is_full pair) ≡ true = ap not (ap (nat_le 16) (files_as setup pair w st) ∙ room_of contents w c) in
    inl (and_from _ true (asks_of setup pair w _ st c.runs (and_from _ _ idle some)) refl))

-- a log that did not go on in a next file
pub rotate_refused : {D R : Type 0} (contents : R → Database) (faults : D → ℕ) (w : World D R) (c : RotateCall contents w) (fault : LogFault) (set : SetOn D) (spare : List D) (next : Source) →
    IsNotRotated faults fault (set_of w.wire) c.given c.others set spare → (fault ≡ log_file.Device → next ≡ halted_source w.source) → ((fault ≡ log_file.Device → ⊥) → next ≡ w.source) →
    Goes contents w events.Rotate (replies.Log fault) (rotated_to w next set spare)
rotate_refused {D} {R} contents faults w c fault set spare next not halts others =
    subst (λ (l : List D). Goes {R = R} contents w events.Rotate (replies.Log fault) (rotated_to w next set l)) (sym not.spares) (by not.cause) where
      by : ((fault ≡ log_file.Device) × FailsToRotate faults (set_of w.wire) c.given set not.back) ⊎ ((fault ≡ log_file.Memory) × (set ≡ set_of w.wire) × (faults not.back ≡ faults c.given)) →
          Goes contents w events.Rotate (replies.Log fault) (rotated_to w next set (not.back ∷ c.others))
      by (inl failed) =
          subst (λ (f : LogFault). Goes {R = R} contents w events.Rotate (replies.Log f) (rotated_to w next set (not.back ∷ c.others))) (sym failed.0)
          (rotate_fails contents faults w c set not.back next failed.1 (halts failed.0))
      by (inr lacks) =
          subst (λ (f : LogFault). Goes {R = R} contents w events.Rotate (replies.Log f) (rotated_to w next set (not.back ∷ c.others))) (sym lacks.0)
          (subst (λ (q : Source). Goes {R = R} contents w events.Rotate (replies.Log log_file.Memory) (rotated_to w q set (not.back ∷ c.others))) (sym (others (λ is. cc (sym lacks.0 ∙ is))))
          (rotate_memory contents w c set not.back lacks.1))

-- ---- what the devices tell

pub rotate_counts : {D R : Type 0} (contents : R → Database) (seen : D → List ℕ) (faults : D → ℕ) (w : World D R) (c : RotateCall contents w) (set : SetOn D) (spare : List D) (number : ℕ) →
    IsRotated seen faults (set_of w.wire) c.given set → spare ≡ c.others → TellsFailure faults (replies.Rotated number) w (rotated_to w w.source set spare)
rotate_counts {D} contents seen faults w c set spare number is rest =
    tells_none faults (replies.Rotated number) w (rotated_to w w.source set spare) refl same (ap (λ (l : Log). l.failed) is.log) where
      count : set.log.faults ≡ faults c.given
      count = ap (λ (l : Log). l.faults) is.log

      same : map faults set.past ++ set.log.faults ∷ map faults spare ≡ map faults w.wire.past ++ w.wire.log.faults ∷ map faults w.wire.spare
      same =
          (λ i. map faults (is.past i) ++ count i ∷ map faults (rest i))
          ∙ ap (λ (l : List ℕ). l ++ faults c.given ∷ map faults c.others) (map-append faults w.wire.past (is.done ∷ []))
          ∙ append_assoc (map faults w.wire.past) (faults is.done ∷ []) (faults c.given ∷ map faults c.others)
          ∙ (λ i. map faults w.wire.past ++ is.same i ∷ map faults (sym c.spares i))

pub not_rotated_counts : {D R : Type 0} (contents : R → Database) (faults : D → ℕ) (w : World D R) (c : RotateCall contents w) (fault : LogFault) (set : SetOn D) (spare : List D) (next : Source) →
    IsNotRotated faults fault (set_of w.wire) c.given c.others set spare → TellsFailure faults (replies.Log fault) w (rotated_to w next set spare)
not_rotated_counts {D} {R} contents faults w c fault set spare next not =
    subst (λ (l : List D). TellsFailure {R = R} faults (replies.Log fault) w (rotated_to w next set l)) (sym not.spares) (by not.cause) where
      were : map faults w.wire.past ++ w.wire.log.faults ∷ map faults w.wire.spare ≡ map faults w.wire.past ++ w.wire.log.faults ∷ faults c.given ∷ map faults c.others
      were = ap (λ (l : List D). map faults w.wire.past ++ w.wire.log.faults ∷ map faults l) c.spares

      by : ((fault ≡ log_file.Device) × FailsToRotate faults (set_of w.wire) c.given set not.back) ⊎ ((fault ≡ log_file.Memory) × (set ≡ set_of w.wire) × (faults not.back ≡ faults c.given)) →
          TellsFailure faults (replies.Log fault) w (rotated_to w next set (not.back ∷ c.others))
      by (inl failed) =
          subst (λ (f : LogFault). TellsFailure {R = R} faults (replies.Log f) w (rotated_to w next set (not.back ∷ c.others))) (sym failed.0)
          (tells_one faults (replies.Log log_file.Device) w (rotated_to w next set (not.back ∷ c.others)) refl
          (subst (λ (l : List ℕ). OneFailed l (map faults set.past ++ set.log.faults ∷ faults not.back ∷ map faults c.others)) (sym were)
          (subst (λ (past : List D). OneFailed (map faults w.wire.past ++ w.wire.log.faults ∷ faults c.given ∷ map faults c.others) (map faults past ++ set.log.faults ∷ faults not.back ∷
          map faults c.others))
          (sym failed.1.files.past)
          (one_of_two (map faults w.wire.past) w.wire.log.faults (faults c.given) set.log.faults (faults not.back) (map faults c.others) failed.1.counts))))
      by (inr lacks) =
          subst (λ (f : LogFault). TellsFailure {R = R} faults (replies.Log f) w (rotated_to w next set (not.back ∷ c.others))) (sym lacks.0)
          (tells_none faults (replies.Log log_file.Memory) w (rotated_to w next set (not.back ∷ c.others)) refl
          ((λ i. map faults (lacks.1 i).past ++ (lacks.1 i).log.faults ∷ lacks.2 i ∷ map faults c.others) ∙ sym were)
          (ap (λ (s : SetOn D). s.log.failed) lacks.1))
