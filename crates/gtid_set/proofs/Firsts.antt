-- The first ids of a source, and the greatest id of a set.
use Rattle.std.proofs.Common.{◌≡◌, ◌∙◌, sym, ap, subst, refl, ℕ, zero, suc, ◌+◌, ◌-◌, ◌^◌, ◌<◌, ◌≤◌, Bool, true, false, ◌&&◌, ◌||◌, eqb, leb, ltb, List, [], ◌∷◌, length, slice_get, Some, arith}
use Rattle.std.specs.Str.{bytes_eq}
use Rattle.std.proofs.Math.Bool.{or-false}
use Rattle.std.proofs.lemmas.Bool.{or_left, or_right}
use Rattle.std.proofs.lemmas.Bool.Decides.{nat_tests}
use Rattle.std.proofs.lemmas.Option.{same_Some}
use Rattle.std.proofs.lemmas.Slice.Eq.{bytes_eq-Decides}
use Rattle.gtid_set.specs.declared.intervals.Interval.{Interval}
use Rattle.gtid_set.specs.Numbers.{is_within, has_number, RiseFrom, AreNumbers, IsGreatest}
use Rattle.gtid_set.specs.Ids.{Ids, IsSet, first_ids, has_id}
use Rattle.gtid_set.specs.Laws.{FirstIds, NextIdFits, NextId}
use Rattle.gtid_set.proofs.OneForm.{one_set}

above_zero : (n : ℕ) → 0 < n → eqb n 0 ≡ false
above_zero n h = grind (arith, nat_tests)

-- some of them
some_first : (source : List ℕ) (n : ℕ) → 0 < n → first_ids source n ≡ record { source = Some source; numbers = record { first = 1; last = n } ∷ [] }
some_first source n h = rw (above_zero n h) refl

-- the numbers of an interval alone
alone : (i : Interval) (m : ℕ) → has_number (i ∷ []) m ≡ is_within i m
alone i m = or-false (is_within i m)

none_at_zero : (b : Bool) (m : ℕ) → false ≡ (b && (leb 1 m && leb m 0))
none_at_zero true m = grind (arith, nat_tests)
none_at_zero false m = refl

pub which : FirstIds
which source zero id = none_at_zero (bytes_eq source id.source) id.gno
which source (suc n) id =
    ap (λ (s : Ids). has_id s id) (some_first source (suc n) (omega arith)) ∙ ap (λ (b : Bool). bytes_eq source id.source && b) (alone (record { first = 1; last = suc n }) id.gno)

numbers_first : (source : List ℕ) (n m : ℕ) → has_number (first_ids source n).numbers m ≡ (leb 1 m && leb m n)
numbers_first source zero m = none_at_zero true m
numbers_first source (suc n) m = ap (λ (s : Ids). has_number s.numbers m) (some_first source (suc n) (omega arith)) ∙ alone (record { first = 1; last = suc n }) m

one_more : (n m : ℕ) → ((leb 1 m && leb m n) || eqb m (n + 1)) ≡ (leb 1 m && leb m (n + 1))
one_more n m = grind (arith, nat_tests)

pub some_are : (source : List ℕ) (n : ℕ) → 0 < n → n < 2 ^ 63 → IsSet (record { source = Some source; numbers = record { first = 1; last = n } ∷ [] })
some_are source n some low = record { numbers = (omega arith, omega arith, low, tt); source = refl }

first_are : (source : List ℕ) (n : ℕ) → n < 2 ^ 63 → IsSet (first_ids source n)
first_are source zero low = record { numbers = tt; source = refl }
first_are source (suc n) low = rw (some_first source (suc n) (omega arith)) (some_are source (suc n) (omega arith) low)

pub next : NextId
next source n new low adds =
    one_set new (first_ids source (n + 1)) adds.is_set (first_are source (n + 1) low)
    (adds.source ∙ ap (λ (s : Ids). s.source) (sym (some_first source (n + 1) (omega arith))))
    (λ m. adds.numbers m ∙ ap (λ (b : Bool). b || eqb m (n + 1)) (numbers_first source n m) ∙ one_more n m ∙ sym (numbers_first source (n + 1) m))

pub fits : NextIdFits
fits source zero low = refl
fits source (suc n) low =
    let one : leb 1 (suc n + 1) ≡ true = grind (arith, nat_tests) in
    let few : ltb (suc n + 1) (2 ^ 63) ≡ true = grind (arith, nat_tests) in
    let same : bytes_eq source source ≡ true = (bytes_eq-Decides source source).1 refl in
    rw (some_first source (suc n) (omega arith), one, few, same) refl

-- ---- the greatest

within_is : (i : Interval) (m : ℕ) → is_within i m ≡ true → m ≤ i.last
within_is i m e = grind (arith, nat_tests)

within_last : (i : Interval) → i.first ≤ i.last → is_within i i.last ≡ true
within_last i h = grind (arith, nat_tests)

most_of : (low : ℕ) (i : Interval) (is : List Interval) (x : Interval) → RiseFrom low (i ∷ is) → slice_get (i ∷ is) (length is) ≡ Some x → IsGreatest (i ∷ is) x.last
most_of low i [] x h e =
    subst (λ (y : Interval). IsGreatest (i ∷ []) y.last) (same_Some i x e) (record { have = alone i i.last ∙ within_last i h.1; most = λ m is_in. within_is i m (sym (alone i m) ∙ is_in) })
most_of low i (j ∷ is) x h e =
    let rest = most_of (i.last + 2) j is x h.3 e in
    let above : j.last ≤ x.last = rest.most j.last (or_left (is_within j j.last) (has_number is j.last) (within_last j h.3.1)) in
    record {
      have = or_right (is_within i x.last) (has_number (j ∷ is) x.last) rest.have;
      most = λ m is_in. at_most m (is_within i m) refl is_in rest.most above;
    }
  where
    at_most : (m : ℕ) (b : Bool) → is_within i m ≡ b → (b || has_number (j ∷ is) m) ≡ true → ((k : ℕ) → has_number (j ∷ is) k ≡ true → k ≤ x.last) → j.last ≤ x.last → m ≤ x.last
    at_most m true here is_in most above = let within = within_is i m here in let next = h.3.0 in let order = h.3.1 in omega arith
    at_most m false here is_in most above = most m is_in

pub greatest_of : (is : List Interval) (x : Interval) → AreNumbers is → Some x ≡ slice_get is (length is - 1) → IsGreatest is x.last
greatest_of [] x h e = absurd (cc)
greatest_of (i ∷ is) x h e =
    let place : length (i ∷ is) - 1 ≡ length is = omega arith in
    most_of 1 i is x h (sym (e ∙ ap (slice_get (i ∷ is)) place))
