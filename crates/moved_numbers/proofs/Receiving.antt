-- What a relay that begins after n records answers.
use Rattle.std.proofs.Common.{◌≡◌, ap, subst, refl, ℕ, ◌+◌, ◌-◌, ◌<◌, ◌≤◌, ◌^◌, Bool, true, false, not, ◌&&◌, ◌||◌, nat_le, nat_lt, List, length, map, Ok, length-append, arith}
use Rattle.std.specs.Prelude.{◌==◌}
use Rattle.std.specs.Str.{bytes_eq}
use Rattle.std.proofs.lemmas.List.{length-map}
use Rattle.std.proofs.lemmas.Bool.{and_parts, or_parts, ltb-true, leb-true, eqb-true, le-leb, lt-ltb, eq-eqb}
use Rattle.std.proofs.lemmas.Slice.Eq.{bytes_eq-Decides}
use Rattle.schema.specs.declared.Table.{Table}
use Rattle.record_codec.specs.declared.records.Record.{Record}
use Rattle.relay.specs.declared.Received.TheVariants.{Accepted, Skipped}
use Rattle.relay.specs.Relay.{is_formed, is_malformed, is_covered, IsAcceptable}
use Rattle.relay.proofs.Judged.{answer_by, accepted_is_acceptable, acceptable_is_accepted, is_skipped}
use Rattle.moved_numbers.specs.Moved.{ahead, RestReceives}
use Rattle.moved_numbers.proofs.Acceptably.{rest_accepts}

-- ---- the form of a record

from_not : (b : Bool) → not b ≡ false → b ≡ true
from_not true h = refl
from_not false h = absurd cc

well_numbered : (some few same below formed : Bool) → some ≡ true → few ≡ true → same ≡ true → below ≡ true → not formed ≡ false →
    (not (some && few) || not same || not below || not formed) ≡ false
well_numbered some few same below formed p q r s t = rw (p, q, r, s, t)

formed_ahead : (ts : List Table) (n : ℕ) (new : Record) → n < new.gno → is_malformed ts new ≡ false → is_malformed ts (ahead n new) ≡ false
formed_ahead ts n new past h =
    let some = nat_le 1 new.gno in
    let few = nat_lt new.gno (2 ^ 63) in
    let same = new.sequence == new.gno in
    let below = nat_lt new.parent new.sequence in
    let formed = is_formed ts new in
    let three = or_parts (not (some && few) || not same || not below) (not formed) h in
    let two = or_parts (not (some && few) || not same) (not below) three.0 in
    let one = or_parts (not (some && few)) (not same) two.0 in
    let bound = ltb-true new.gno (2 ^ 63) (and_parts some few (from_not (some && few) one.0)).1 in
    let number = eqb-true new.sequence new.gno (from_not same one.1) in
    let parent = ltb-true new.parent new.sequence (from_not below two.1) in
    well_numbered (nat_le 1 (new.gno - n)) (nat_lt (new.gno - n) (2 ^ 63)) (new.sequence - n == new.gno - n) (nat_lt (new.parent - n) (new.sequence - n)) formed
    (le-leb 1 (new.gno - n) (omega arith)) (lt-ltb (new.gno - n) (2 ^ 63) (omega (arith, bound))) (eq-eqb (new.sequence - n) (new.gno - n) (omega (arith, number)))
    (lt-ltb (new.parent - n) (new.sequence - n) (omega (arith, number, parent))) three.1

-- ---- its answer

record IsSkipped (same malformed skipped : Bool) : Type 0 where
  is_same : same ≡ true
  is_formed_ : malformed ≡ false
  is_known : skipped ≡ true

skipped_by : (same malformed skipped next covered : Bool) → answer_by same malformed skipped next covered ≡ Ok Skipped → IsSkipped same malformed skipped
skipped_by true false true next covered h = record { is_same = refl; is_formed_ = refl; is_known = refl }
skipped_by true false false true true h = absurd cc
skipped_by true false false true false h = absurd cc
skipped_by true false false false covered h = absurd cc
skipped_by true true skipped next covered h = absurd cc
skipped_by false malformed skipped next covered h = absurd cc

pub rest_receives : RestReceives
rest_receives r front rest from new Accepted is past h =
    let n = length front in
    let both = accepted_is_acceptable r from new h in
    acceptable_is_accepted (record r { accepted = map (ahead n) rest }) from (ahead n new) both.0
    (rest_accepts r.tables front rest new (subst (λ (l : List Record). IsAcceptable r.tables l new) is both.1))
rest_receives r front rest from new Skipped is past h =
    let n = length front in
    let k = skipped_by (bytes_eq from r.source) (is_malformed r.tables new) (nat_le new.gno (length r.accepted)) (new.gno == length r.accepted + 1) (is_covered r.accepted new) h in
    let known : new.gno ≤ length r.accepted = leb-true new.gno (length r.accepted) k.is_known in
    is_skipped (record r { accepted = map (ahead n) rest }) from (ahead n new) ((bytes_eq-Decides from r.source).0 k.is_same) (formed_ahead r.tables n new past k.is_formed_)
    (omega (arith, known, ap length is, length-append front rest, length-map rest (ahead n)))
