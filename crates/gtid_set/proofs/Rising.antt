-- Intervals that rise, cut into a front and a back, and the numbers that they have.
use Rattle.std.proofs.Common.{◌≡◌, ◌∙◌, sym, ap, refl, ℕ, zero, suc, ◌+◌, ◌-◌, ◌<◌, ◌≤◌, Bool, true, false, ◌||◌, eqb, List, [], ◌∷◌, ◌++◌, length, get_or, arith}
use Rattle.std.specs.List.{AllByRecursion}
use Rattle.std.specs.List.Sorted.{IsNonDecreasingBy}
use Rattle.std.proofs.Math.Bool.{or-false}
use Rattle.std.proofs.lemmas.Bool.{or_from}
use Rattle.std.proofs.lemmas.Bool.Decides.{nat_tests}
use Rattle.std.proofs.lemmas.List.Folds.{list_any-append}
use Rattle.gtid_set.specs.declared.intervals.Interval.{Interval}
use Rattle.gtid_set.specs.Numbers.{is_within, has_number, RiseFrom, Puts}

-- where intervals may go on behind these
abbrev pub end_of : ℕ → List Interval → ℕ
end_of low [] = low
end_of low (i ∷ is) = end_of (i.last + 2) is

pub rise_front : (low : ℕ) (a b : List Interval) → RiseFrom low (a ++ b) → RiseFrom low a
rise_front low [] b h = tt
rise_front low (i ∷ a) b h = (h.0, h.1, h.2, rise_front (i.last + 2) a b h.3)

pub rise_back : (low : ℕ) (a b : List Interval) → RiseFrom low (a ++ b) → RiseFrom (end_of low a) b
rise_back low [] b h = h
rise_back low (i ∷ a) b h = rise_back (i.last + 2) a b h.3

pub rise_both : (low : ℕ) (a b : List Interval) → RiseFrom low a → RiseFrom (end_of low a) b → RiseFrom low (a ++ b)
rise_both low [] b f g = g
rise_both low (i ∷ a) b f g = (f.0, f.1, f.2, rise_both (i.last + 2) a b f.3 g)

-- the end of what ends below a number
pub end_below : (low n : ℕ) (a : List Interval) → low ≤ n → AllByRecursion (λ i. i.last < n - 1) a → end_of low a ≤ n
end_below low n [] le h = le
end_below low n (i ∷ a) le h = end_below (i.last + 2) n a (omega (arith, h.0)) h.1

-- what ends below it, and goes on behind it
pub end_push : (low : ℕ) (a : List Interval) (i : Interval) → end_of low (a ++ i ∷ []) ≡ i.last + 2
end_push low [] i = refl
end_push low (x ∷ a) i = end_push (x.last + 2) a i

-- ---- places

rises_above : (low : ℕ) (is : List Interval) (j : ℕ) (d : Interval) → RiseFrom low is → j < length is → low ≤ (get_or is j d).last
rises_above low [] j d h lt = absurd (omega arith)
rises_above low (i ∷ is) zero d h lt = omega (arith, h.0, h.1)
rises_above low (i ∷ is) (suc j) d h lt =
    let r : i.last + 2 ≤ (get_or is j d).last = rises_above (i.last + 2) is j d h.3 (omega arith) in omega (arith, h.0, h.1)

at_two : (low : ℕ) (is : List Interval) (i j : ℕ) (d : Interval) → RiseFrom low is → i ≤ j → j < length is → (get_or is i d).last ≤ (get_or is j d).last
at_two low [] i j d h le lt = absurd (omega arith)
at_two low (x ∷ is) zero zero d h le lt = omega arith
at_two low (x ∷ is) zero (suc j) d h le lt =
    let r : x.last + 2 ≤ (get_or is j d).last = rises_above (x.last + 2) is j d h.3 (omega arith) in omega arith
at_two low (x ∷ is) (suc i) zero d h le lt = absurd (omega arith)
at_two low (x ∷ is) (suc i) (suc j) d h le lt = at_two (x.last + 2) is i j d h.3 (omega arith) (omega arith)

pub lasts_rise : (low : ℕ) (is : List Interval) → RiseFrom low is → IsNonDecreasingBy (λ i. i.last) is
lasts_rise low is h = λ i j d le lt. at_two low is i j d h le lt

-- ---- numbers

within_false : (i : Interval) (n : ℕ) → n < i.first → is_within i n ≡ false
within_false i n h = grind (arith, nat_tests)

pub behind_false : (i : Interval) (n : ℕ) → i.last < n → is_within i n ≡ false
behind_false i n h = grind (arith, nat_tests)

pub within_true : (i : Interval) (n : ℕ) → i.first ≤ n → n ≤ i.last → is_within i n ≡ true
within_true i n h k = grind (arith, nat_tests)

pub none_before : (low n : ℕ) (is : List Interval) → RiseFrom low is → n < low → has_number is n ≡ false
none_before low n [] h lt = refl
none_before low n (i ∷ is) h lt =
    or_from _ _ (within_false i n (omega (arith, h.0))) (none_before (i.last + 2) n is h.3 (omega (arith, h.0, h.1)))

pub none_behind : (n : ℕ) (is : List Interval) → AllByRecursion (λ i. i.last < n) is → has_number is n ≡ false
none_behind n [] h = refl
none_behind n (i ∷ is) h = or_from _ _ (behind_false i n h.0) (none_behind n is h.1)

pub has_number-append : (a b : List Interval) (n : ℕ) → has_number (a ++ b) n ≡ (has_number a n || has_number b n)
has_number-append a b n = list_any-append (λ i. is_within i n) a b

-- ---- a number that is put into the middle

or_in : (a b c e : Bool) → (a || ((b || e) || c)) ≡ ((a || (b || c)) || e)
or_in true b c e = refl
or_in false true c e = refl
or_in false false true true = refl
or_in false false true false = refl
or_in false false false e = or-false e

pub puts_between : (front old new back : List Interval) (n : ℕ) → RiseFrom 1 front → RiseFrom (end_of 1 front) (new ++ back)
    → ((m : ℕ) → has_number new m ≡ (has_number old m || eqb m n)) → Puts (front ++ (old ++ back)) (front ++ (new ++ back)) n
puts_between front old new back n rises goes have = record {
  are = rise_both 1 front (new ++ back) rises goes;
  have = λ m.
      has_number-append front (new ++ back) m ∙ ap (λ (b : Bool). has_number front m || b) (has_number-append new back m)
      ∙ ap (λ (b : Bool). has_number front m || (b || has_number back m)) (have m)
      ∙ or_in (has_number front m) (has_number old m) (has_number back m) (eqb m n)
      ∙ sym (ap (λ (b : Bool). b || eqb m n) (has_number-append front (old ++ back) m ∙ ap (λ (b : Bool). has_number front m || b) (has_number-append old back m)));
}

pub alone_has : (n m : ℕ) → has_number (record { first = n; last = n } ∷ []) m ≡ (has_number [] m || eqb m n)
alone_has n m = grind (arith, nat_tests)

pub lower_has : (x : Interval) (n m : ℕ) → x.first ≡ n + 1 → x.first ≤ x.last → has_number (record { first = n; last = x.last } ∷ []) m ≡ (has_number (x ∷ []) m || eqb m n)
lower_has x n m e h = grind (arith, nat_tests)

pub higher_has : (x : Interval) (n m : ℕ) → x.first ≤ x.last → x.last + 1 ≡ n → has_number (record { first = x.first; last = n } ∷ []) m ≡ (has_number (x ∷ []) m || eqb m n)
higher_has x n m h e = grind (arith, nat_tests)

pub joined_has : (x y : Interval) (n m : ℕ) → x.first ≤ x.last → x.last + 1 ≡ n → y.first ≡ n + 1 → y.first ≤ y.last
    → has_number (record { first = x.first; last = y.last } ∷ []) m ≡ (has_number (x ∷ y ∷ []) m || eqb m n)
joined_has x y n m h e f g = grind (arith, nat_tests)
