-- What putting a number at its place leaves.
use Rattle.std.proofs.Common.{add-one, ◌≡◌, ◌∙◌, subst, sym, ap, refl, ℕ, zero, suc, ◌+◌, ◌-◌, ◌^◌, ◌<◌, ◌≤◌, Bool, true, false, not, ◌||◌, ltb, leb, List, [], ◌∷◌, ◌++◌, length, get_or, take, drop}
use Rattle.std.proofs.Common.{set, arith}
use Rattle.std.specs.List.{AllByRecursion, insert, remove}
use Rattle.std.proofs.lemmas.Bool.{ltb-true, ltb-false, or_from}
use Rattle.std.proofs.lemmas.Bool.Decides.{nat_tests}
use Rattle.std.proofs.lemmas.List.{set_split, set_at, take-append-drop, take_all, drop_all, length-take-le, append_assoc, get_or_default}
use Rattle.std.proofs.lemmas.List.Edits.{get_or-remove_below}
use Rattle.std.proofs.Math.Seq.{split_at, take-suc, drop-cons}
use Rattle.schema.proofs.Lists.{AllByRecursion-weaker}
use Rattle.gtid_set.specs.declared.intervals.Interval.{Interval}
use Rattle.gtid_set.specs.Numbers.{is_within, has_number, RiseFrom, AreNumbers, IsPlace, Puts}
use Rattle.gtid_set.proofs.Rising.{rise_front, rise_back, end_below, none_before, none_behind, has_number-append, puts_between, alone_has, lower_has, higher_has, joined_has}

pub front_from : (low at : ℕ) (is : List Interval) → ((k : ℕ) (d : Interval) → 0 ≤ k → k < at → ltb (get_or is k d).last low ≡ true) → at ≤ length is → AllByRecursion (λ i. i.last < low) (take at is)
front_from low zero is h le = tt
front_from low (suc at) [] h le = absurd (omega arith)
front_from low (suc at) (i ∷ is) h le =
    (ltb-true i.last low (h 0 i (omega arith) (omega arith)), front_from low at is (λ k d z lt. h (suc k) d (omega arith) (omega arith)) (omega arith))

pub back_from : (low at : ℕ) (is : List Interval) → ((k : ℕ) (d : Interval) → at ≤ k → k < length is → ltb (get_or is k d).last low ≡ false) → AllByRecursion (λ i. low ≤ i.last) (drop at is)
back_from low zero [] h = tt
back_from low zero (i ∷ is) h =
    (ltb-false i.last low (h 0 i (omega arith) (omega arith)), back_from low zero is (λ k d z lt. h (suc k) d (omega arith) (omega arith)))
back_from low (suc at) [] h = tt
back_from low (suc at) (i ∷ is) h = back_from low at is (λ k d z lt. h (suc k) d (omega arith) (omega arith))

-- the list round the interval at a place
pub at_place : (is : List Interval) (at : ℕ) (x : Interval) → at < length is → x ≡ get_or is at x → is ≡ take at is ++ x ∷ drop (suc at) is
at_place is at x lt e = split_at is at x lt ∙ ap (λ (y : Interval). take at is ++ y ∷ drop (suc at) is) (sym e)

-- what ends below a number ends below a greater one
pub below_more : (low n : ℕ) (is : List Interval) → low ≤ n → AllByRecursion (λ i. i.last < low) is → AllByRecursion (λ i. i.last < n) is
below_more low n is le h = AllByRecursion-weaker (λ (i : Interval). i.last < low) (λ i. i.last < n) (λ i under. omega (arith, under, le)) is h

-- ---- the number is in no interval

absent : (front back : List Interval) (low n : ℕ) → AllByRecursion (λ i. i.last < n - 1) front → RiseFrom low back → n < low → has_number (front ++ back) n ≡ false
absent front back low n below rises lt =
    has_number-append front back n ∙ or_from _ _ (none_behind n front (below_more (n - 1) n front (omega arith) below)) (none_before low n back rises lt)

pub absent_lower : (front back : List Interval) (x : Interval) (n : ℕ) → RiseFrom 1 (front ++ x ∷ back) → AllByRecursion (λ i. i.last < n - 1) front → n < x.first →
    has_number (front ++ x ∷ back) n ≡ false
absent_lower front back x n rises below lt =
    let r = rise_back 1 front (x ∷ back) rises in
    absent front (x ∷ back) x.first n below (omega arith, r.1, r.2, r.3) lt

pub absent_higher : (front back : List Interval) (x : Interval) (n : ℕ) → RiseFrom 1 (front ++ x ∷ back) → AllByRecursion (λ i. i.last < n - 1) front → x.last + 1 ≡ n →
    has_number (front ++ x ∷ back) n ≡ false
absent_higher front back x n rises below e =
    let r = rise_back 1 front (x ∷ back) rises in
    has_number-append front (x ∷ back) n
    ∙ or_from _ _ (none_behind n front (below_more (n - 1) n front (omega arith) below))
    (or_from _ _ (grind (arith, nat_tests)) (none_before (x.last + 2) n back r.3 (omega arith)))

-- ---- what is put where

pub puts_lower : (front back : List Interval) (x : Interval) (n : ℕ) → RiseFrom 1 (front ++ x ∷ back) → AllByRecursion (λ i. i.last < n - 1) front → 1 ≤ n → x.first ≡ n + 1
    → Puts (front ++ x ∷ back) (front ++ record { first = n; last = x.last } ∷ back) n
puts_lower front back x n rises below one e =
    let r = rise_back 1 front (x ∷ back) rises in
    puts_between front (x ∷ []) (record { first = n; last = x.last } ∷ []) back n (rise_front 1 front (x ∷ back) rises)
    (end_below 1 n front one below, omega (arith, r.1), r.2, r.3) (λ m. lower_has x n m e r.1)

pub puts_higher : (front back : List Interval) (x : Interval) (n : ℕ) → RiseFrom 1 (front ++ x ∷ back) → n < 2 ^ 63 → x.last + 1 ≡ n → RiseFrom (n + 2) back
    → Puts (front ++ x ∷ back) (front ++ record { first = x.first; last = n } ∷ back) n
puts_higher front back x n rises fits e goes =
    let r = rise_back 1 front (x ∷ back) rises in
    puts_between front (x ∷ []) (record { first = x.first; last = n } ∷ []) back n (rise_front 1 front (x ∷ back) rises)
    (r.0, omega (arith, r.1), fits, goes) (λ m. higher_has x n m r.1 e)

pub puts_joined : (front back : List Interval) (x y : Interval) (n : ℕ) → RiseFrom 1 (front ++ x ∷ y ∷ back) → x.last + 1 ≡ n → y.first ≡ n + 1
    → Puts (front ++ x ∷ y ∷ back) (front ++ record { first = x.first; last = y.last } ∷ back) n
puts_joined front back x y n rises e f =
    let r = rise_back 1 front (x ∷ y ∷ back) rises in
    let s = r.3 in
    puts_between front (x ∷ y ∷ []) (record { first = x.first; last = y.last } ∷ []) back n (rise_front 1 front (x ∷ y ∷ back) rises)
    (r.0, omega (arith, r.1, s.1), s.2, s.3) (λ m. joined_has x y n m r.1 e f s.1)

pub puts_alone : (front back : List Interval) (n : ℕ) → RiseFrom 1 (front ++ back) → AllByRecursion (λ i. i.last < n - 1) front → 1 ≤ n → n < 2 ^ 63 → RiseFrom (n + 2) back
    → Puts (front ++ back) (front ++ record { first = n; last = n } ∷ back) n
puts_alone front back n rises below one fits goes =
    puts_between front [] (record { first = n; last = n } ∷ []) back n (rise_front 1 front back rises)
    (end_below 1 n front one below, omega arith, fits, goes) (λ m. alone_has n m)

-- ---- the same at a place of a list

pub drop_place : (is : List Interval) (at : ℕ) (x : Interval) → at < length is → x ≡ get_or is at x → drop at is ≡ x ∷ drop (suc at) is
drop_place is at x lt e = drop-cons is at x lt ∙ ap (λ (y : Interval). y ∷ drop (suc at) is) (sym e)

rises_at : (is : List Interval) (at : ℕ) (x : Interval) → AreNumbers is → at < length is → x ≡ get_or is at x → RiseFrom 1 (take at is ++ x ∷ drop (suc at) is)
rises_at is at x are lt e = let whole = at_place is at x lt e in subst (λ (l : List Interval). RiseFrom 1 l) whole are

-- from a place on nothing is left, or what begins no lower
pub none_left : (is : List Interval) (at low : ℕ) → length is ≤ at → RiseFrom low (drop at is)
none_left is at low le = subst (λ (l : List Interval). RiseFrom low l) (sym (drop_all at is le)) tt

pub far : (is : List Interval) (at low : ℕ) (x : Interval) → AreNumbers is → at < length is → x ≡ get_or is at x → low ≤ x.first → RiseFrom low (drop at is)
far is at low x are lt e le =
    let r = rise_back 1 (take at is) (x ∷ drop (suc at) is) (rises_at is at x are lt e) in
    let all : RiseFrom low (x ∷ drop (suc at) is) = (le, r.1, r.2, r.3) in
    subst (λ (l : List Interval). RiseFrom low l) (sym (drop_place is at x lt e)) all

held : (a b c d : Bool) → a ≡ false → c ≡ false → b ≡ d → d ≡ (a || (b || c))
held a b c d p q e = rw (p, q, e) (elim d as (λ v. v ≡ (v || false)) [ true ↦ refl | false ↦ refl ])

pub holds_at : (is : List Interval) (at n : ℕ) (x : Interval) → AreNumbers is → IsPlace is n at → at < length is → x ≡ get_or is at x → leb x.first n ≡ has_number is n
holds_at is at n x are place lt e =
    let r = rise_back 1 (take at is) (x ∷ drop (suc at) is) (rises_at is at x are lt e) in
    let behind = subst (λ (l : List Interval). AllByRecursion (λ i. n ≤ i.last) l) (drop_place is at x lt e) place.back in
    let here : is_within x n ≡ leb x.first n = within_below x n behind.0 in
    held (has_number (take at is) n) (is_within x n) (has_number (drop (suc at) is) n) (leb x.first n)
    (none_behind n (take at is) place.front) (none_before (x.last + 2) n (drop (suc at) is) r.3 (omega (arith, behind.0))) here
    ∙ sym (has_number-append (take at is) (x ∷ drop (suc at) is) n)
    ∙ ap (λ (l : List Interval). has_number l n) (sym (at_place is at x lt e))
  where
    within_below : (x : Interval) (n : ℕ) → n ≤ x.last → is_within x n ≡ leb x.first n
    within_below x n h = grind (arith, nat_tests)

pub holds_none : (is : List Interval) (at n : ℕ) → IsPlace is n at → length is ≤ at → has_number is n ≡ false
holds_none is at n place le =
    ap (λ (l : List Interval). has_number l n) (sym (take_all at is le)) ∙ none_behind n (take at is) place.front

pub lowered : (is : List Interval) (at n : ℕ) (x : Interval) → AreNumbers is → IsPlace is (n - 1) at → 1 ≤ n → at < length is → x ≡ get_or is at x → x.first ≡ n + 1
    → Puts is (set is at (record { first = n; last = x.last })) n
lowered is at n x are place one lt e f =
    let put = puts_lower (take at is) (drop (suc at) is) x n (rises_at is at x are lt e) place.front one f in
    rw (set_split is at (record { first = n; last = x.last }) lt) (subst (λ (l : List Interval). Puts l (take at is ++ record { first = n; last = x.last } ∷ drop (suc at) is) n)
    (sym (at_place is at x lt e)) put)

pub lacks_lower : (is : List Interval) (at n : ℕ) (x : Interval) → AreNumbers is → IsPlace is (n - 1) at → at < length is → x ≡ get_or is at x → n < x.first → true ≡ not (has_number is n)
lacks_lower is at n x are place lt e f =
    let none = absent_lower (take at is) (drop (suc at) is) x n (rises_at is at x are lt e) place.front f in
    ap not (sym (ap (λ (l : List Interval). has_number l n) (at_place is at x lt e) ∙ none))

pub lacks_higher : (is : List Interval) (at n : ℕ) (x : Interval) → AreNumbers is → IsPlace is (n - 1) at → at < length is → x ≡ get_or is at x → x.last + 1 ≡ n → true ≡ not (has_number is n)
lacks_higher is at n x are place lt e f =
    let none = absent_higher (take at is) (drop (suc at) is) x n (rises_at is at x are lt e) place.front f in
    ap not (sym (ap (λ (l : List Interval). has_number l n) (at_place is at x lt e) ∙ none))

pub ends_at : (is : List Interval) (at low : ℕ) (x : Interval) → IsPlace is low at → at < length is → x ≡ get_or is at x → low ≤ x.last
ends_at is at low x place lt e = (subst (λ (l : List Interval). AllByRecursion (λ i. low ≤ i.last) l) (drop_place is at x lt e) place.back).0

pub raised : (is : List Interval) (at n : ℕ) (x : Interval) → AreNumbers is → n < 2 ^ 63 → at < length is → x ≡ get_or is at x → x.last + 1 ≡ n → RiseFrom (n + 2) (drop (suc at) is)
    → Puts is (set is at (record { first = x.first; last = n })) n
raised is at n x are fits lt e f goes =
    let put = puts_higher (take at is) (drop (suc at) is) x n (rises_at is at x are lt e) fits f goes in
    rw (set_split is at (record { first = x.first; last = n }) lt) (subst (λ (l : List Interval). Puts l (take at is ++ record { first = x.first; last = n } ∷ drop (suc at) is) n)
    (sym (at_place is at x lt e)) put)

-- the interval at the next place is taken out, and its end is written into that at the place
pub joined : (is : List Interval) (at n : ℕ) (x y : Interval) → AreNumbers is → suc at < length is → x ≡ get_or (remove is (suc at)) at x → y ≡ get_or is (suc at) y →
    ((i : Interval) → (get_or is at i).last + 1 ≡ n) → y.first ≡ n + 1
    → Puts is (set (remove is (suc at)) at (record { first = x.first; last = y.last })) n
joined is at n x y are lt e f ends g =
    let front = take at is in
    let back = drop (suc (suc at)) is in
    let here : x ≡ get_or is at x = e ∙ get_or-remove_below is (suc at) x at (omega arith) lt in
    let end : x.last + 1 ≡ n = ap (λ (i : Interval). i.last + 1) here ∙ ends x in
    let whole : is ≡ front ++ x ∷ y ∷ back = at_place is at x (omega arith) here ∙ ap (λ (l : List Interval). front ++ x ∷ l) (drop_place is (suc at) y lt f) in
    let left : remove is (suc at) ≡ front ++ x ∷ back = ap (λ (l : List Interval). l ++ back) (take-suc is at x (omega arith) ∙ ap (λ (i : Interval). front ++ i ∷ []) (sym here))
    ∙ append_assoc front (x ∷ []) back in
    let long : length front ≡ at = length-take-le at is (omega arith) in
    let written : set (remove is (suc at)) at (record { first = x.first; last = y.last }) ≡ front ++ record { first = x.first; last = y.last } ∷ back =
    ap (λ (l : List Interval). set l at (record { first = x.first; last = y.last })) left ∙ set_at front x back (record { first = x.first; last = y.last }) at long in
    let put = puts_joined front back x y n (subst (λ (l : List Interval). RiseFrom 1 l) whole are) end g in
    subst (λ (l : List Interval). Puts is l n) (sym written) (subst (λ (l : List Interval). Puts l (front ++ record { first = x.first; last = y.last } ∷ back) n) (sym whole) put)

pub inserted : (is : List Interval) (at n : ℕ) → AreNumbers is → IsPlace is (n - 1) at → 1 ≤ n → n < 2 ^ 63 → RiseFrom (n + 2) (drop at is)
    → (true ≡ not (has_number is n)) × Puts is (insert is at (record { first = n; last = n })) n
inserted is at n are place one fits goes =
    let whole : take at is ++ drop at is ≡ is = take-append-drop at is in
    let rises : RiseFrom 1 (take at is ++ drop at is) = subst (λ (l : List Interval). RiseFrom 1 l) (sym whole) are in
    let none = absent (take at is) (drop at is) (n + 2) n place.front goes (omega arith) in (
      ap not (sym (ap (λ (l : List Interval). has_number l n) (sym whole) ∙ none)),
      subst (λ (l : List Interval). Puts l (insert is at (record { first = n; last = n })) n) whole (puts_alone (take at is) (drop at is) n rises place.front one fits goes),
    )

pub joined_at : (is removed : List Interval) (at n : ℕ) (x y : Interval) → AreNumbers is → at + 1 < length is → removed ≡ remove is (at + 1) → x ≡ get_or removed at x → y ≡ get_or is (at + 1) y →
    ((i : Interval) → (get_or is at i).last + 1 ≡ n) → y.first ≡ n + 1
    → Puts is (set removed at (record { first = x.first; last = y.last })) n
joined_at is removed at n x y are lt left e f ends g =
    let next : removed ≡ remove is (suc at) = left ∙ ap (λ (k : ℕ). remove is k) (add-one at) in
    let put = joined is at n x y are (omega arith) (e ∙ ap (λ (l : List Interval). get_or l at x) next) (f ∙ ap (λ (k : ℕ). get_or is k y) (add-one at)) ends g in
    subst (λ (l : List Interval). Puts is (set l at (record { first = x.first; last = y.last })) n) (sym next) put

pub far_next : (is : List Interval) (at low : ℕ) (x : Interval) → AreNumbers is → at + 1 < length is → x ≡ get_or is (at + 1) x → low ≤ x.first → RiseFrom low (drop (suc at) is)
far_next is at low x are lt e le = far is (suc at) low x are (omega arith) (e ∙ ap (λ (k : ℕ). get_or is k x) (add-one at)) le

-- what stands behind an interval does not begin at the number next to its end but two
pub behind_end : (is : List Interval) (at : ℕ) (x : Interval) → AreNumbers is → at < length is → x ≡ get_or is at x → RiseFrom (x.last + 2) (drop (suc at) is)
behind_end is at x are lt e = (rise_back 1 (take at is) (x ∷ drop (suc at) is) (rises_at is at x are lt e)).3

pub begins_at : (is : List Interval) (at low : ℕ) (y : Interval) → RiseFrom low (drop (suc at) is) → at + 1 < length is → y ≡ get_or is (at + 1) y → low ≤ y.first
begins_at is at low y rises lt e =
    (subst (λ (l : List Interval). RiseFrom low l) (drop_place is (suc at) y (omega arith) (e ∙ ap (λ (k : ℕ). get_or is k y) (add-one at))) rises).0

-- what is read twice at one place
pub same_read : (is : List Interval) (at : ℕ) (x y : Interval) → at < length is → x ≡ get_or is at x → y ≡ get_or is at y → x ≡ y
same_read is at x y lt e f = e ∙ get_or_default is at x y lt ∙ sym f
