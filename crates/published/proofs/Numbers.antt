-- Numbers up to a mark, and rising numbers ahead of it.
use Rattle.std.proofs.Common.{◌≡◌, ℕ, zero, suc, ◌+◌, ◌-◌, ◌<◌, ◌≤◌, ◌==◌, ◌||◌, Bool, true, false, List, [], ◌∷◌, ◌++◌, length, drop, get_or, refl, sym, ap, subst, ◌∙◌, arith, length-append}
use Rattle.std.proofs.Common.{append_assoc, add-one, drop-cons, Result, Ok, Err}
use Rattle.std.specs.Prelude.{nat_le}
use Rattle.std.proofs.lemmas.Bool.Decides.{nat_tests}
use Rattle.std.proofs.lemmas.Bool.{false≢true, and_from, and_right}
use Rattle.std.proofs.Math.Bool.{or_assoc, or_comm, or-false}
use Rattle.std.proofs.lemmas.List.Sorted.{searched}
use Rattle.std.specs.List.{insert}
use Rattle.std.specs.List.Sorted.{IsBinarySearchResult}
use Rattle.std.specs.Ordering.{nat_cmp}
use Rattle.std.specs.Result.{MatchResult}
use Rattle.scheduler.specs.Gnos.{has_gno, low_of, first_gnos}
use Rattle.scheduler.proofs.Gnos.{has_first, has_gno_at, has_gno_front, has_gno-append, has_gno-push, lacks_both, lacks_front, lacks_behind, low_of_is, length-first_gnos, first_gnos-next}
use Rattle.published.specs.Gaps.{RiseBetween}

-- ---- the numbers from 1 on

first_has : (n gno : ℕ) → 1 ≤ gno → gno ≤ n → has_gno (first_gnos n) gno ≡ true
first_has n gno some le = has_first n gno ∙ and_from (nat_le 1 gno) (nat_le gno n) (grind (arith, nat_tests)) (grind (arith, nat_tests))

first_lacks : (n gno : ℕ) → n < gno → has_gno (first_gnos n) gno ≡ false
first_lacks n gno more = has_first n gno ∙ and_right (nat_le 1 gno) (nat_le gno n) (grind (arith, nat_tests))

-- ---- rising numbers

pub rise_lacks : (least most : ℕ) (xs : List ℕ) (gno : ℕ) → RiseBetween least most xs → gno ≤ least → has_gno xs gno ≡ false
rise_lacks least most [] gno r le = refl
rise_lacks least most (x ∷ xs) gno r le =
    let other : (x == gno) ≡ false = grind (arith, nat_tests, r.0) in
    rw other (rise_lacks x most xs gno r.2 (omega (arith, r.0)))

-- numbers that rise from one on do so from a lower one
pub rise_from : (least lower most : ℕ) (xs : List ℕ) → lower ≤ least → RiseBetween least most xs → RiseBetween lower most xs
rise_from least lower most [] le r = tt
rise_from least lower most (x ∷ xs) le r = (omega (arith, r.0), r.1, r.2)

-- they are at most as many as there are numbers between
rise_few : (least most : ℕ) (xs : List ℕ) → least ≤ most → RiseBetween least most xs → least + length xs ≤ most
rise_few least most [] le r = omega arith
rise_few least most (x ∷ xs) le r = omega (arith, r.0, rise_few x most xs r.1 r.2)

pub rise_places : (least most : ℕ) (xs : List ℕ) → RiseBetween least most xs → (i j : ℕ) → i ≤ j → j < length xs → get_or xs i 0 ≤ get_or xs j 0
rise_places least most [] r i j le in_ = absurd (omega arith)
rise_places least most (x ∷ xs) r zero zero le in_ = omega arith
rise_places least most (x ∷ xs) r zero (suc j) le in_ = omega (arith, above x most xs r.2 j (omega arith)) where
  above : (least most : ℕ) (xs : List ℕ) → RiseBetween least most xs → (j : ℕ) → j < length xs → least < get_or xs j 0
  above least most [] r j in_ = absurd (omega arith)
  above least most (x ∷ xs) r zero in_ = r.0
  above least most (x ∷ xs) r (suc j) in_ = omega (arith, r.0, above x most xs r.2 j (omega arith))
rise_places least most (x ∷ xs) r (suc i) zero le in_ = absurd (omega arith)
rise_places least most (x ∷ xs) r (suc i) (suc j) le in_ = rise_places x most xs r.2 i j (omega arith) (omega arith)

-- one more, between those below it and those above
pub rise_insert : (least most : ℕ) (xs : List ℕ) (i gno : ℕ) → RiseBetween least most xs → i ≤ length xs → least < gno → gno ≤ most
    → ((k : ℕ) → k < i → get_or xs k 0 < gno) → ((k : ℕ) → i ≤ k → k < length xs → gno < get_or xs k 0) → RiseBetween least most (insert xs i gno)
rise_insert least most [] zero gno r le more fits below above = (more, fits, tt)
rise_insert least most [] (suc i) gno r le more fits below above = absurd (omega arith)
rise_insert least most (x ∷ xs) zero gno r le more fits below above = (more, fits, (above zero (omega arith) (omega arith), r.1, r.2))
rise_insert least most (x ∷ xs) (suc i) gno r le more fits below above =
    (r.0, r.1, rise_insert x most xs i gno r.2 (omega arith) (below zero (omega arith)) fits (λ k in_. below (suc k) (omega arith)) (λ k from in_. above (suc k) (omega arith) (omega arith)))

-- it is one more of them
pub has_insert : (xs : List ℕ) (i gno other : ℕ) → has_gno (insert xs i gno) other ≡ (has_gno xs other || (gno == other))
has_insert xs zero gno other = or_comm (gno == other) (has_gno xs other)
has_insert [] (suc i) gno other = or-false (gno == other)
has_insert (x ∷ xs) (suc i) gno other = ap (λ b. (x == other) || b) (has_insert xs i gno other) ∙ sym (or_assoc (x == other) (has_gno xs other) (gno == other))

-- ---- both

-- the mark is that of the whole
pub mark_is_low : (upto most : ℕ) (ahead : List ℕ) → RiseBetween (upto + 1) most ahead → upto ≡ low_of (first_gnos upto ++ ahead)
mark_is_low upto most ahead r = sym (low_of_is (first_gnos upto ++ ahead) upto (record {
  all = λ gno some le. has_gno_front (first_gnos upto) ahead gno (first_has upto gno some le);
  next = lacks_both (first_gnos upto) ahead (upto + 1) (first_lacks upto (upto + 1) (omega arith)) (rise_lacks (upto + 1) most ahead (upto + 1) r (omega arith));
}))

-- so many are noted: those up to the mark, and those ahead
pub count_noted : (upto : ℕ) (ahead : List ℕ) → upto + length ahead ≡ length (first_gnos upto ++ ahead)
count_noted upto ahead = ap (λ n. n + length ahead) (sym (length-first_gnos upto)) ∙ sym (length-append (first_gnos upto) ahead)

-- they are no more than the greatest number
pub count_fits : (upto most : ℕ) (ahead : List ℕ) → upto ≤ most → RiseBetween (upto + 1) most ahead → upto + length ahead ≤ most
count_fits upto most [] le r = omega arith
count_fits upto most (x ∷ ahead) le r = omega (arith, r.0, rise_few x most ahead r.1 r.2)

-- a number that is not among them is above the mark, and ahead of it where it is not the next
pub new_is_above : (upto : ℕ) (ahead : List ℕ) (gno : ℕ) → 1 ≤ gno → has_gno (first_gnos upto ++ ahead) gno ≡ false → upto < gno
new_is_above upto ahead gno some none =
    elim (nat_le gno upto) as (λ (b : Bool). nat_le gno upto ≡ b → upto < gno) [
      | true ↦ λ le. absurd (cc (sym (first_has upto gno some (grind (arith, nat_tests, le))), lacks_front (first_gnos upto) ahead gno none))
      | false ↦ λ le. grind (arith, nat_tests, le)
    ] refl

-- where the next one comes, the numbers are those and the next
pub has_next : (upto gno : ℕ) (ahead new : List ℕ) → gno ≡ upto + 1 → new ≡ first_gnos gno ++ ahead → (other : ℕ) → has_gno new other ≡ (has_gno (first_gnos upto ++ ahead) other || (gno == other))
has_next upto gno ahead new next is other =
    ap (λ l. has_gno l other) is
    ∙ has_gno-append (first_gnos gno) ahead other
    ∙ ap (λ l. has_gno l other || has_gno ahead other) (ap first_gnos next ∙ first_gnos-next upto ∙ ap (λ n. first_gnos upto ++ n ∷ []) (sym next))
    ∙ ap (λ b. b || has_gno ahead other) (has_gno-push (first_gnos upto) gno other)
    ∙ or_assoc (has_gno (first_gnos upto) other) (gno == other) (has_gno ahead other)
    ∙ ap (λ b. has_gno (first_gnos upto) other || b) (or_comm (gno == other) (has_gno ahead other))
    ∙ sym (or_assoc (has_gno (first_gnos upto) other) (has_gno ahead other) (gno == other))
    ∙ ap (λ b. b || (gno == other)) (sym (has_gno-append (first_gnos upto) ahead other))

-- where the next number comes, one more is noted
pub next_count : (upto gno : ℕ) (ahead new : List ℕ) → gno ≡ upto + 1 → new ≡ first_gnos gno ++ ahead → length new ≡ length (first_gnos upto ++ ahead) + 1
next_count upto gno ahead new next is =
    ap (λ (l : List ℕ). length l) is ∙ sym (count_noted gno ahead) ∙ more gno upto (length ahead) next ∙ ap (λ n. n + 1) (count_noted upto ahead) where
      more : (gno upto n : ℕ) → gno ≡ upto + 1 → gno + n ≡ (upto + n) + 1
      more gno upto n next = omega (arith, next)

-- and where one comes ahead, likewise
pub has_ahead : (upto : ℕ) (ahead more : List ℕ) (gno : ℕ) → ((other : ℕ) → has_gno more other ≡ (has_gno ahead other || (gno == other)))
    → (other : ℕ) → has_gno (first_gnos upto ++ more) other ≡ (has_gno (first_gnos upto ++ ahead) other || (gno == other))
has_ahead upto ahead more gno has other =
    has_gno-append (first_gnos upto) more other
    ∙ ap (λ b. has_gno (first_gnos upto) other || b) (has other)
    ∙ sym (or_assoc (has_gno (first_gnos upto) other) (has_gno ahead other) (gno == other))
    ∙ ap (λ b. b || (gno == other)) (sym (has_gno-append (first_gnos upto) ahead other))

-- and where one comes ahead
pub ahead_count : (upto : ℕ) (ahead more : List ℕ) → length more ≡ length ahead + 1 → length (first_gnos upto ++ more) ≡ length (first_gnos upto ++ ahead) + 1
ahead_count upto ahead more is = omega (arith, is, count_noted upto more, count_noted upto ahead)

-- a number that is not noted is not ahead
pub lacks_ahead : (upto : ℕ) (ahead : List ℕ) (gno : ℕ) → has_gno (first_gnos upto ++ ahead) gno ≡ false → has_gno ahead gno ≡ false
lacks_ahead upto ahead gno none = lacks_behind (first_gnos upto) ahead gno none

-- ---- a walk over those ahead

at_place : (ahead : List ℕ) (i : ℕ) → i < length ahead → drop i ahead ≡ get_or ahead i 0 ∷ drop (i + 1) ahead
at_place ahead i more = rw add-one (drop-cons ahead i 0 more)

-- the mark passes one more of those ahead
pub rise_passed : (upto most i : ℕ) (ahead : List ℕ) → i < length ahead → RiseBetween upto most (drop i ahead) → RiseBetween (get_or ahead i 0) most (drop (i + 1) ahead)
rise_passed upto most i ahead more r = (subst (RiseBetween upto most) (at_place ahead i more) r).2

-- the mark may pass a number ahead that is the next one: the same are noted
pub same_passed : (upto i : ℕ) (ahead whole : List ℕ) → i < length ahead → get_or ahead i 0 ≡ upto + 1
    → first_gnos upto ++ drop i ahead ≡ whole → first_gnos (get_or ahead i 0) ++ drop (i + 1) ahead ≡ whole
same_passed upto i ahead whole more is so_far =
    ap (λ n. first_gnos n ++ drop (i + 1) ahead) is
    ∙ ap (λ l. l ++ drop (i + 1) ahead) (first_gnos-next upto)
    ∙ append_assoc (first_gnos upto) ((upto + 1) ∷ []) (drop (i + 1) ahead)
    ∙ ap (λ n. first_gnos upto ++ n ∷ drop (i + 1) ahead) (sym is)
    ∙ ap (λ l. first_gnos upto ++ l) (sym (at_place ahead i more))
    ∙ so_far

-- the next number ahead is above the mark
pub next_is_above : (upto most i : ℕ) (ahead : List ℕ) → i < length ahead → RiseBetween upto most (drop i ahead) → upto < get_or ahead i 0
next_is_above upto most i ahead more r = (subst (RiseBetween upto most) (at_place ahead i more) r).0

-- ---- a search by halves

-- the place of a number is between those below it and those above
abbrev HasPlace : List ℕ → ℕ → ℕ → Type 0
HasPlace xs gno i = (i ≤ length xs) × ((k : ℕ) → k < i → get_or xs k 0 < gno) × ((k : ℕ) → i ≤ k → k < length xs → gno < get_or xs k 0)

-- one that is not among them is not found
pub not_found : (most gno i : ℕ) (xs : List ℕ) (r : Result ℕ ℕ) → RiseBetween 0 most xs → has_gno xs gno ≡ false → IsBinarySearchResult (λ y. nat_cmp y gno) xs r → r ≡ Ok i → ⊥
not_found most gno i xs r rise none told is =
    let P : Result ℕ ℕ → Type 0 = λ o. MatchResult o (λ i. (i < length xs) × (get_or xs i 0 ≡ gno)) (HasPlace xs gno) in
    let there : (i < length xs) × (get_or xs i 0 ≡ gno) = subst P is (searched xs gno r told (rise_places 0 most xs rise)) in
    false≢true (sym none ∙ subst (λ g. has_gno xs g ≡ true) there.1 (has_gno_at xs i 0 there.0))

found_place : (most gno i : ℕ) (xs : List ℕ) (r : Result ℕ ℕ) → RiseBetween 0 most xs → IsBinarySearchResult (λ y. nat_cmp y gno) xs r → r ≡ Err i → HasPlace xs gno i
found_place most gno i xs r rise told is =
    let P : Result ℕ ℕ → Type 0 = λ o. MatchResult o (λ i. (i < length xs) × (get_or xs i 0 ≡ gno)) (HasPlace xs gno) in
    subst P is (searched xs gno r told (rise_places 0 most xs rise))

-- a number that is put in its place leaves the others rising
pub rise_put : (least most gno i : ℕ) (xs new : List ℕ) (r : Result ℕ ℕ) → RiseBetween 0 most xs → IsBinarySearchResult (λ y. nat_cmp y gno) xs r
    → r ≡ Err i → new ≡ insert xs i gno → gno ≤ most → least < gno → RiseBetween least most xs → RiseBetween least most new
rise_put least most gno i xs new r rise told is put fits more above =
    let place = found_place most gno i xs r rise told is in
    subst (RiseBetween least most) (sym put) (rise_insert least most xs i gno above place.0 more fits place.1 place.2)
