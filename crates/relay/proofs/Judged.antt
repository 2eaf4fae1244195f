-- What the tests of a received record say.
use Rattle.std.proofs.Common.{◌≡◌, ℕ, ◌+◌, ◌-◌, ◌<◌, ◌≤◌, ◌^◌, Bool, true, false, not, ◌&&◌, ◌||◌, nat_le, nat_lt, List, length, Result, Ok, Err, refl, sym, ap, subst, ◌∙◌, arith}
use Rattle.std.specs.Prelude.{◌==◌, if◌then◌else◌}
use Rattle.std.specs.List.{list_all}
use Rattle.std.specs.Str.{bytes_eq}
use Rattle.std.proofs.lemmas.Bool.{and_parts, ltb-true, eqb-true, le-leb, lt-leb, lt-ltb, eq-eqb, ne_eqb}
use Rattle.std.proofs.lemmas.Slice.Eq.{bytes_eq-Decides}
use Rattle.schema.specs.declared.Table.{Table}
use Rattle.rows.specs.Shape.{is_shaped}
use Rattle.record_codec.specs.declared.records.Record.{Record}
use Rattle.record_codec.specs.Log.{touched, place_of}
use Rattle.relay.specs.declared.ReplicaFault.{ReplicaFault}
use Rattle.relay.specs.declared.ReplicaFault.TheVariants.{Gap, ForeignSource, Malformed, BadParent}
use Rattle.relay.specs.declared.Received.{Received}
use Rattle.relay.specs.declared.Received.TheVariants.{Accepted, Skipped}
use Rattle.relay.specs.Form.{has_flags, are_parents, has_ref, are_unique, states_given}
use Rattle.relay.specs.Relay.{Relay, is_formed, is_malformed, is_covered, received, IsAcceptable}
use Rattle.relay.specs.Laws.{AcceptsTheAcceptable}
use Rattle.gtid_set.specs.Ids.{Ids, first_ids, Adds}
use Rattle.gtid_set.proofs.Firsts.{next}
use Rattle.schema.proofs.Covers.{passed_covers, covers_passes}

-- the answer by its tests
abbrev pub answer_by : Bool → Bool → Bool → Bool → Bool → Result Received ReplicaFault
answer_by same malformed skipped next covered =
    if not same then Err ForeignSource else if malformed then Err Malformed else if skipped then Ok Skipped else if not next then Err Gap
    else if not covered then Err BadParent else Ok Accepted

record Passed (s m k n c : Bool) : Type 0 where
  same : s ≡ true
  malformed : m ≡ false
  skipped : k ≡ false
  next : n ≡ true
  covered : c ≡ true

all_passed : (same malformed skipped next covered : Bool) → answer_by same malformed skipped next covered ≡ Ok Accepted → Passed same malformed skipped next covered
all_passed true false false true true e = record { same = refl; malformed = refl; skipped = refl; next = refl; covered = refl }
all_passed true false false true false e = absurd cc
all_passed true false false false covered e = absurd cc
all_passed true false true next covered e = absurd cc
all_passed true true skipped next covered e = absurd cc
all_passed false malformed skipped next covered e = absurd cc

-- ---- the form of a record

abbrev malformed_by : Bool → Bool → Bool → Bool → Bool → Bool
malformed_by some few same below formed = not (some && few) || not same || not below || not formed

record WellFormed (s f g b h : Bool) : Type 0 where
  some : s ≡ true
  few : f ≡ true
  same : g ≡ true
  below : b ≡ true
  formed : h ≡ true

-- the parts of what the tables allow
record Formed (s f p r u m : Bool) : Type 0 where
  shaped : s ≡ true
  flags : f ≡ true
  parents : p ≡ true
  refs : r ≡ true
  unique : u ≡ true
  marks : m ≡ true

formed_by : (shaped flags parents refs unique marks : Bool) → (shaped && flags && parents && refs && unique && marks) ≡ true → Formed shaped flags parents refs unique marks
formed_by shaped flags parents refs unique marks h =
    let five = and_parts (shaped && flags && parents && refs && unique) marks h in
    let four = and_parts (shaped && flags && parents && refs) unique five.0 in
    let three = and_parts (shaped && flags && parents) refs four.0 in
    let two = and_parts (shaped && flags) parents three.0 in
    let one = and_parts shaped flags two.0 in
    record { shaped = one.0; flags = one.1; parents = two.1; refs = three.1; unique = four.1; marks = five.1 }

by_formed : (shaped flags parents refs unique marks : Bool) → Formed shaped flags parents refs unique marks → (shaped && flags && parents && refs && unique && marks) ≡ true
by_formed shaped flags parents refs unique marks f = rw (f.shaped, f.flags, f.parents, f.refs, f.unique, f.marks)

formed_of : (ts : List Table) (log : List Record) (new : Record) → IsAcceptable ts log new → is_formed ts new ≡ true
formed_of ts log new is =
    by_formed (list_all (is_shaped ts) new.changes) (has_flags ts new) (are_parents ts new.refs) (list_all (has_ref ts new.refs) new.changes)
    (are_unique ts new.marks) (list_all (states_given ts new.marks) new.changes)
    (record { shaped = is.shaped; flags = is.flags; parents = is.parents; refs = is.refs; unique = is.unique; marks = is.marks })

well_formed : (some few same below formed : Bool) → malformed_by some few same below formed ≡ false → WellFormed some few same below formed
well_formed true true true true true e = record { some = refl; few = refl; same = refl; below = refl; formed = refl }
well_formed true true true true false e = absurd cc
well_formed true true true false formed e = absurd cc
well_formed true true false below formed e = absurd cc
well_formed true false same below formed e = absurd cc
well_formed false few same below formed e = absurd cc

pub accepted_is_acceptable : (r : Relay) (from : List ℕ) (new : Record) → received r from new ≡ Ok Accepted → (from ≡ r.source) × IsAcceptable r.tables r.accepted new
accepted_is_acceptable r from new e =
    let p = all_passed (bytes_eq from r.source) (is_malformed r.tables new) (nat_le new.gno (length r.accepted)) (new.gno == length r.accepted + 1) (is_covered r.accepted new) e in
    let w = well_formed (nat_le 1 new.gno) (nat_lt new.gno (2 ^ 63)) (new.sequence == new.gno) (nat_lt new.parent new.sequence) (is_formed r.tables new) p.malformed in
    let f =
    formed_by (list_all (is_shaped r.tables) new.changes) (has_flags r.tables new) (are_parents r.tables new.refs) (list_all (has_ref r.tables new.refs) new.changes)
    (are_unique r.tables new.marks) (list_all (states_given r.tables new.marks) new.changes) w.formed in
    let gno = eqb-true new.gno (length r.accepted + 1) p.next in (
      (bytes_eq-Decides from r.source).0 p.same,
      record {
        gno = gno;
        sequence = eqb-true new.sequence new.gno w.same ∙ gno;
        bound = ltb-true new.gno (2 ^ 63) w.few;
        below = ltb-true new.parent new.sequence w.below;
        covers = passed_covers place_of r.accepted (touched new) new.parent p.covered;
        shaped = f.shaped;
        flags = f.flags;
        parents = f.parents;
        refs = f.refs;
        unique = f.unique;
        marks = f.marks;
      },
    )

not_malformed : (some few same below formed : Bool) → WellFormed some few same below formed → malformed_by some few same below formed ≡ false
not_malformed some few same below formed w = rw (w.some, w.few, w.same, w.below, w.formed)

pub well_formed_record : (ts : List Table) (log : List Record) (new : Record) → IsAcceptable ts log new → is_malformed ts new ≡ false
well_formed_record ts log new is =
    not_malformed (nat_le 1 new.gno) (nat_lt new.gno (2 ^ 63)) (new.sequence == new.gno) (nat_lt new.parent new.sequence) (is_formed ts new)
    (record {
      some = le-leb 1 new.gno (omega (arith, is.gno));
      few = lt-ltb new.gno (2 ^ 63) is.bound;
      same = eq-eqb new.sequence new.gno (is.sequence ∙ sym is.gno);
      below = lt-ltb new.parent new.sequence is.below;
      formed = formed_of ts log new is;
    })

by_passed : (same malformed skipped next covered : Bool) → Passed same malformed skipped next covered → answer_by same malformed skipped next covered ≡ Ok Accepted
by_passed same malformed skipped next covered p = rw (p.same, p.malformed, p.skipped, p.next, p.covered)

pub acceptable_is_accepted : (r : Relay) (from : List ℕ) (new : Record) → from ≡ r.source → IsAcceptable r.tables r.accepted new → received r from new ≡ Ok Accepted
acceptable_is_accepted r from new same is =
    by_passed (bytes_eq from r.source) (is_malformed r.tables new) (nat_le new.gno (length r.accepted)) (new.gno == length r.accepted + 1) (is_covered r.accepted new)
    (record {
      same = (bytes_eq-Decides from r.source).1 same;
      malformed = well_formed_record r.tables r.accepted new is;
      skipped = lt-leb new.gno (length r.accepted) (omega (arith, is.gno));
      next = eq-eqb new.gno (length r.accepted + 1) is.gno;
      covered = covers_passes place_of r.accepted (touched new) new.parent is.covers;
    })

pub accepts_the_acceptable : AcceptsTheAcceptable
accepts_the_acceptable r from new = (accepted_is_acceptable r from new, λ both. acceptable_is_accepted r from new both.0 both.1)

-- what a record that is accepted is, as the relay is seen
pub next_of : (r now : Relay) (from : List ℕ) (new : Record) → r ≡ now → received now from new ≡ Ok Accepted → (from ≡ r.source) × IsAcceptable r.tables r.accepted new
next_of r now from new same is = accepted_is_acceptable r from new (ap (λ (q : Relay). received q from new) same ∙ is)

-- the ids before the next record
pub ids_before : (source from : List ℕ) (n gno : ℕ) (ids : Ids) → from ≡ source → gno ≡ n + 1 → ids ≡ first_ids source n → ids ≡ first_ids from (gno - 1)
ids_before source from n gno ids same next is =
    let before : n ≡ gno - 1 = omega arith in
    is ∙ ap (λ (s : List ℕ). first_ids s n) (sym same) ∙ ap (first_ids from) before

-- the id is put in behind those before it
pub next_put : (source : List ℕ) (gno : ℕ) (old new : Ids) → 1 ≤ gno → gno < 2 ^ 63 → old ≡ first_ids source (gno - 1) → Adds old new (record { source = source; gno = gno }) →
    new ≡ first_ids source gno
next_put source gno old new some few before adds =
    let n = gno - 1 in
    let number : n + 1 ≡ gno = omega arith in
    let behind : Adds (first_ids source n) new (record { source = source; gno = gno }) = subst (λ (s : Ids). Adds s new (record { source = source; gno = gno })) before adds in
    let put : Adds (first_ids source n) new (record { source = source; gno = n + 1 }) = subst (λ (k : ℕ). Adds (first_ids source n) new (record { source = source; gno = k })) (sym number) behind in
    next source n new (omega arith) put ∙ ap (first_ids source) number

-- ---- records that are not the next

skips : (same malformed skipped next covered : Bool) → same ≡ true → malformed ≡ false → skipped ≡ true → answer_by same malformed skipped next covered ≡ Ok Skipped
skips same malformed skipped next covered p q r = rw (p, q, r)

gaps : (same malformed skipped next covered : Bool) → same ≡ true → malformed ≡ false → skipped ≡ false → next ≡ false → answer_by same malformed skipped next covered ≡ Err Gap
gaps same malformed skipped next covered p q r t = rw (p, q, r, t)

pub is_skipped : (r : Relay) (from : List ℕ) (new : Record) → from ≡ r.source → is_malformed r.tables new ≡ false → new.gno ≤ length r.accepted → received r from new ≡ Ok Skipped
is_skipped r from new same formed le =
    skips (bytes_eq from r.source) (is_malformed r.tables new) (nat_le new.gno (length r.accepted)) (new.gno == length r.accepted + 1) (is_covered r.accepted new)
    ((bytes_eq-Decides from r.source).1 same) formed (le-leb new.gno (length r.accepted) le)

pub is_gap : (r : Relay) (from : List ℕ) (new : Record) → from ≡ r.source → is_malformed r.tables new ≡ false → length r.accepted + 1 < new.gno → received r from new ≡ Err Gap
is_gap r from new same formed lt =
    gaps (bytes_eq from r.source) (is_malformed r.tables new) (nat_le new.gno (length r.accepted)) (new.gno == length r.accepted + 1) (is_covered r.accepted new)
    ((bytes_eq-Decides from r.source).1 same) formed (lt-leb new.gno (length r.accepted) (omega arith)) (ne_eqb new.gno (length r.accepted + 1) (λ e. omega arith))

-- which of these a record is, by its number
abbrev pub by_number : ℕ → ℕ → Result Received ReplicaFault
by_number gno n = if nat_le gno n then Ok Skipped else if gno == n + 1 then Ok Accepted else Err Gap

pub at_most : (gno n : ℕ) → gno ≤ n → by_number gno n ≡ Ok Skipped
at_most gno n le = rw (le-leb gno n le)

pub at_next : (gno n : ℕ) → gno ≡ n + 1 → by_number gno n ≡ Ok Accepted
at_next gno n e = rw (lt-leb gno n (omega arith), eq-eqb gno (n + 1) e)

pub past_next : (gno n : ℕ) → n + 1 < gno → by_number gno n ≡ Err Gap
past_next gno n lt = rw (lt-leb gno n (omega arith), ne_eqb gno (n + 1) (λ e. omega arith))
