-- Joining sorted intervals, from the front.
use Rattle.std.proofs.Common.{◌≡◌, ◌∙◌, subst, sym, ap, ℕ, zero, suc, ◌+◌, ◌-◌, ◌^◌, ◌<◌, ◌≤◌, max, Bool, ◌||◌, List, [], ◌∷◌, ◌++◌, length, get_or, take, drop, set, arith, inl, inr}
use Rattle.std.specs.List.{AllByRecursion}
use Rattle.std.specs.List.Sorted.{IsNonDecreasingBy, IsPermutation}
use Rattle.std.proofs.Math.Bool.{or-false, or_assoc}
use Rattle.std.proofs.lemmas.Bool.{cases_lt}
use Rattle.std.proofs.lemmas.Bool.Decides.{nat_tests}
use Rattle.std.proofs.lemmas.List.{take_more, take_more_set, drop-drop, get_or-drop, get_or-take, length-take-le, get_or_default}
use Rattle.std.proofs.lemmas.List.Elements.{recursion_from_All, All-from_recursion}
use Rattle.std.proofs.lemmas.List.Sorted.{list_any-IsPermutation, All-permutation}
use Rattle.std.proofs.lemmas.Grind.{drop_more_same}
use Rattle.schema.proofs.Lists.{AllByRecursion-push, AllByRecursion-front, AllByRecursion-behind, AllByRecursion-weaker}
use Rattle.gtid_set.specs.declared.intervals.Interval.{Interval}
use Rattle.gtid_set.specs.Numbers.{is_within, has_number, RiseFrom, AreNumbers, IsInterval, Joins, AreThoseOf}
use Rattle.gtid_set.proofs.Rising.{end_of, end_push, rise_front, rise_back, rise_both, has_number-append}

pub last_fits : (low : ℕ) (is : List Interval) (j : ℕ) (d : Interval) → RiseFrom low is → j < length is → (get_or is j d).last < 2 ^ 63
last_fits low [] j d h lt = absurd (omega arith)
last_fits low (i ∷ is) zero d h lt = h.2
last_fits low (i ∷ is) (suc j) d h lt = last_fits (i.last + 2) is j d h.3 (omega arith)

pub last_taken : (is : List Interval) (kept : ℕ) (d : Interval) → AreNumbers (take kept is) → 0 < kept → kept < length is → (get_or is (kept - 1) d).last < 2 ^ 63
last_taken is kept d are some lt =
    let long : length (take kept is) ≡ kept = length-take-le kept is (omega arith) in
    let fits = last_fits 1 (take kept is) (kept - 1) d are (omega arith) in
    subst (λ (i : Interval). i.last < 2 ^ 63) (get_or-take kept is (kept - 1) d (omega arith)) fits

-- what holds of the first ones holds when another stands in the last place
sorted_push : (f : ℕ) (is : List Interval) (y : Interval) → AllByRecursion (λ i. i.first ≤ f) is → y.first ≤ f → AllByRecursion (λ i. i.first ≤ f) (is ++ y ∷ [])
sorted_push f is y h le = AllByRecursion-push (λ i. i.first ≤ f) is y h le

sorted_front : (f : ℕ) (is ys : List Interval) → AllByRecursion (λ i. i.first ≤ f) (is ++ ys) → AllByRecursion (λ i. i.first ≤ f) is
sorted_front f is ys h = AllByRecursion-front (λ i. i.first ≤ f) is ys h

sorted_last : (f : ℕ) (is : List Interval) (y : Interval) → AllByRecursion (λ i. i.first ≤ f) (is ++ y ∷ []) → y.first ≤ f
sorted_last f is y h = (AllByRecursion-behind (λ i. i.first ≤ f) is (y ∷ []) h).0

pub sorted_more : (f g : ℕ) (is : List Interval) → f ≤ g → AllByRecursion (λ i. i.first ≤ f) is → AllByRecursion (λ i. i.first ≤ g) is
sorted_more f g is le h = AllByRecursion-weaker (λ (i : Interval). i.first ≤ f) (λ i. i.first ≤ g) (λ i within. omega (arith, within, le)) is h

has_one : (is : List Interval) (y : Interval) (m : ℕ) → has_number (is ++ y ∷ []) m ≡ (has_number is m || is_within y m)
has_one is y m = has_number-append is (y ∷ []) m ∙ ap (λ (b : Bool). has_number is m || b) (or-false (is_within y m))

joins_push : (out : List Interval) (next : Interval) → AreNumbers out → IsInterval next → AllByRecursion (λ i. i.first ≤ next.first) out → end_of 1 out ≤ next.first → Joins out (out ++ next ∷ []) next
joins_push out next are is sorted le = record {
  are = rise_both 1 out (next ∷ []) are (le, is.rising, is.last, tt);
  sorted = sorted_push next.first out next sorted (omega arith);
  have = λ m. has_one out next m;
}

widened : (x next : Interval) (last m : ℕ) → x.first ≤ x.last → next.first ≤ next.last → x.first ≤ next.first → next.first ≤ x.last + 1 → last ≡ max x.last next.last
    → is_within (record { first = x.first; last = last }) m ≡ (is_within x m || is_within next m)
widened x next last m a b c d e =
    elim (cases_lt x.last next.last) [
      | inl lt ↦ let f : last ≡ next.last = omega arith in grind (arith, nat_tests)
      | inr le ↦ let f : last ≡ x.last = omega arith in grind (arith, nat_tests)
    ]

joins_extend : (front : List Interval) (x next : Interval) (last : ℕ) → AreNumbers (front ++ x ∷ []) → IsInterval next → AllByRecursion (λ i. i.first ≤ next.first) (front ++ x ∷ []) →
    next.first ≤ x.last + 1 → last ≡ max x.last next.last
    → Joins (front ++ x ∷ []) (front ++ record { first = x.first; last = last } ∷ []) next
joins_extend front x next last are is sorted near e =
    let r = rise_back 1 front (x ∷ []) are in
    let y : Interval = record { first = x.first; last = last } in
    let le : x.first ≤ next.first = sorted_last next.first front x sorted in
    record {
      are = rise_both 1 front (y ∷ []) (rise_front 1 front (x ∷ []) are) (r.0, omega (arith, r.1), omega (arith, r.2, is.last), tt);
      sorted = sorted_push next.first front y (sorted_front next.first front (x ∷ []) sorted) le;
      have = λ m.
          has_one front y m ∙ ap (λ (b : Bool). has_number front m || b) (widened x next last m r.1 is.rising le near e)
          ∙ sym (or_assoc (has_number front m) (is_within x m) (is_within next m))
          ∙ ap (λ (b : Bool). b || is_within next m) (sym (has_one front x m));
    }

pub pushed : (is : List Interval) (kept : ℕ) (next : Interval) → kept < length is → IsInterval next → AreNumbers (take kept is) → AllByRecursion (λ i. i.first ≤ next.first) (take kept is) →
    end_of 1 (take kept is) ≤ next.first
    → Joins (take kept is) (take (kept + 1) (set is kept next)) next
pushed is kept next lt i are sorted le =
    subst (λ (l : List Interval). Joins (take kept is) l next) (sym (take_more_set is kept next lt)) (joins_push (take kept is) next are i sorted le)

pub end_none : (is : List Interval) (kept f : ℕ) → kept ≤ 0 → 1 ≤ f → end_of 1 (take kept is) ≤ f
end_none is zero f none le = le
end_none is (suc kept) f none le = absurd (omega arith)

-- as many as are kept, and the last of them
kept_last : (is : List Interval) (kept : ℕ) (d : Interval) → 0 < kept → kept < length is → take kept is ≡ take (kept - 1) is ++ get_or is (kept - 1) d ∷ []
kept_last is kept d some lt =
    let k : kept ≡ kept - 1 + 1 = omega arith in
    ap (λ (j : ℕ). take j is) k ∙ take_more is (kept - 1) d (omega arith)

kept_set : (is : List Interval) (kept : ℕ) (y : Interval) → 0 < kept → kept < length is → take kept (set is (kept - 1) y) ≡ take (kept - 1) is ++ y ∷ []
kept_set is kept y some lt =
    let k : kept ≡ kept - 1 + 1 = omega arith in
    ap (λ (j : ℕ). take j (set is (kept - 1) y)) k ∙ take_more_set is (kept - 1) y (omega arith)

pub end_last : (is : List Interval) (kept : ℕ) (d : Interval) → 0 < kept → kept < length is → end_of 1 (take kept is) ≡ (get_or is (kept - 1) d).last + 2
end_last is kept d some lt = ap (end_of 1) (kept_last is kept d some lt) ∙ end_push 1 (take (kept - 1) is) (get_or is (kept - 1) d)

pub extended : (is : List Interval) (kept : ℕ) (next d : Interval) (last : ℕ) → 0 < kept → kept < length is → IsInterval next → AreNumbers (take kept is) →
    AllByRecursion (λ i. i.first ≤ next.first) (take kept is)
    → next.first ≤ (get_or is (kept - 1) d).last + 1 → last ≡ max (get_or is (kept - 1) d).last next.last
    → Joins (take kept is) (take kept (set is (kept - 1) (record { first = (get_or is (kept - 1) d).first; last = last }))) next
extended is kept next d last some lt i are sorted near e =
    let x = get_or is (kept - 1) d in
    let y : Interval = record { first = x.first; last = last } in
    let was = kept_last is kept d some lt in
    let joins = joins_extend (take (kept - 1) is) x next last (subst (λ (l : List Interval). AreNumbers l) was are) i
    (subst (λ (l : List Interval). AllByRecursion (λ i. i.first ≤ next.first) l) was sorted) near e in
    subst (λ (l : List Interval). Joins (take kept is) l next) (sym (kept_set is kept y some lt))
    (subst (λ (l : List Interval). Joins l (take (kept - 1) is ++ y ∷ []) next) (sym was) joins)

-- ---- the walk over all of them

-- so many stand at the front for those up to a place, and the others stand as they stood
pub record AreJoined (old new : List Interval) (kept i : ℕ) : Type 0 where
  pub few : kept ≤ i
  pub long : length new ≡ length old
  pub are : AreNumbers (take kept new)
  pub sorted : (j : ℕ) (d : Interval) → i ≤ j → j < length old → AllByRecursion (λ x. x.first ≤ (get_or old j d).first) (take kept new)
  pub have : (m : ℕ) → has_number (take kept new) m ≡ has_number (take i old) m
  pub rest : drop i new ≡ drop i old

-- the next one stands where it stood
pub next_is : (old new : List Interval) (kept i : ℕ) (d : Interval) → AreJoined old new kept i → get_or new i d ≡ get_or old i d
next_is old new kept i d h =
    ap (λ (k : ℕ). get_or new k d) zero_on ∙ sym (get_or-drop i new 0 d) ∙ ap (λ (l : List Interval). get_or l 0 d) h.rest ∙ get_or-drop i old 0 d ∙ ap (λ (k : ℕ). get_or old k d) (sym zero_on)
  where
    zero_on : i ≡ i + 0
    zero_on = omega arith

pub sorted_before : (old new : List Interval) (kept i : ℕ) (d : Interval) → AreJoined old new kept i → i < length old → AllByRecursion (λ x. x.first ≤ (get_or new i d).first) (take kept new)
sorted_before old new kept i d h lt =
    subst (λ (y : Interval). AllByRecursion (λ x. x.first ≤ y.first) (take kept new)) (sym (next_is old new kept i d h)) (h.sorted i d (omega arith) lt)

drop_later : (a b : List Interval) (i j : ℕ) → i ≤ j → drop i a ≡ drop i b → drop j a ≡ drop j b
drop_later a b i j le e =
    let k : j ≡ i + (j - i) = omega arith in
    ap (λ (n : ℕ). drop n a) k ∙ sym (drop-drop (j - i) i a) ∙ ap (drop (j - i)) e ∙ drop-drop (j - i) i b ∙ ap (λ (n : ℕ). drop n b) (sym k)

-- An interval joined to those that are kept at the front: as many as counted are kept then, and those behind stay.
pub record JoinsOne (new : List Interval) (kept : ℕ) (d : Interval) (after : List Interval) (count : ℕ) : Type 0 where
  pub joins : Joins (take kept new) (take count after) d
  pub rest : drop (kept + 1) after ≡ drop (kept + 1) new
  pub few : count ≤ kept + 1
  pub long : length after ≡ length new

pub one_joined : (old new after : List Interval) (kept count i : ℕ) (d : Interval) → IsNonDecreasingBy (λ x. x.first) old → AreJoined old new kept i → i < length old →
    JoinsOne new kept (get_or new i d) after count →
    AreJoined old after count (i + 1)
one_joined old new after kept count i d sorts h lt one =
    let next = next_is old new kept i d h in
    record {
      few = omega (arith, h.few, one.few);
      long = one.long ∙ h.long;
      are = one.joins.are;
      sorted = λ j e le below.
          let up : (get_or new i d).first ≤ (get_or old j e).first = omega (
            arith,
            ap (λ (x : Interval). x.first) next,
            ap (λ (x : Interval). x.first) (get_or_default old i d e lt),
            sorts i j e (omega arith) below,
          ) in
          sorted_more (get_or new i d).first (get_or old j e).first (take count after) up one.joins.sorted;
      have = λ m.
          one.joins.have m ∙ ap (λ (b : Bool). b || is_within (get_or new i d) m) (h.have m) ∙ ap (λ (x : Interval). has_number (take i old) m || is_within x m) next
          ∙ sym (has_one (take i old) (get_or old i d) m) ∙ ap (λ (l : List Interval). has_number l m) (sym (take_more old i d lt));
      rest = drop_later after new (kept + 1) (i + 1) (omega (arith, h.few)) one.rest ∙ drop_more_same new old i h.rest;
    }

-- ---- sorted first

pub each_sorted : (old sorted : List Interval) → IsPermutation old sorted → AllByRecursion IsInterval old → AllByRecursion IsInterval sorted
each_sorted old sorted p h = recursion_from_All IsInterval sorted (All-permutation IsInterval old sorted p (All-from_recursion IsInterval old h))

pub those_of_sorted : (old sorted new : List Interval) → IsPermutation old sorted → AreThoseOf sorted new → AreThoseOf old new
those_of_sorted old sorted new p h =
    record { are = h.are; have = λ m. h.have m ∙ sym (list_any-IsPermutation (λ i. is_within i m) old sorted p) }
