-- Sets of transaction numbers, as lists: which numbers are among them, the lists without a number, and their low-water marks.
use Rattle.std.proofs.Common.{◌≡◌, ◌∙◌, sym, ap, refl, subst, ℕ, zero, suc, ◌+◌, ◌<◌, ◌≤◌, Bool, true, false, not, ◌||◌, ◌&&◌, ◌⊎◌, cond, List, [], ◌∷◌, ◌++◌, length, get_or, take, drop, inl, inr}
use Rattle.std.proofs.Common.{arith, eqb, leb, length-append}
use Rattle.std.specs.List.{AllByRecursion, position_or_len, remove}
use Rattle.std.proofs.Math.Bool.{or-false}
use Rattle.std.proofs.lemmas.Bool.{cases_lt, cases_eq, cases_order, cases_Bool, or_left, or_right, or_cases, or_from, or_parts, and_from, and_right, eq-eqb, ne_eqb, eqb-true, eqb-false, le-leb}
use Rattle.std.proofs.lemmas.Bool.{lt-leb, leb-true, and_parts, cond-true, cond-false, false≢true, both_ways, false_from_ne_true}
use Rattle.std.proofs.lemmas.Bool.Decides.{nat_tests}
use Rattle.std.proofs.lemmas.List.{take-append-drop, take-append-le, take_all}
use Rattle.std.proofs.lemmas.List.Folds.{list_any-append}
use Rattle.scheduler.specs.Gnos.{has_gno, without, AreDistinct, bound_of, low_from, low_of, first_gnos, IsLow, LowIsLow, OneLow, HasFirst, LowOfFirst, LowRises, AreFewer, LowIsFew}

-- ---- which numbers are among them

pub has_gno-append : (xs ys : List ℕ) (gno : ℕ) → has_gno (xs ++ ys) gno ≡ (has_gno xs gno || has_gno ys gno)
has_gno-append xs ys gno = list_any-append (λ (n : ℕ). eqb n gno) xs ys

pub has_gno-push : (xs : List ℕ) (n gno : ℕ) → has_gno (xs ++ n ∷ []) gno ≡ (has_gno xs gno || eqb n gno)
has_gno-push xs n gno = has_gno-append xs (n ∷ []) gno ∙ ap (λ b. has_gno xs gno || b) (or-false (eqb n gno))

pub has_gno_front : (xs ys : List ℕ) (gno : ℕ) → has_gno xs gno ≡ true → has_gno (xs ++ ys) gno ≡ true
has_gno_front xs ys gno h = has_gno-append xs ys gno ∙ or_left (has_gno xs gno) (has_gno ys gno) h

pub has_gno_behind : (xs ys : List ℕ) (gno : ℕ) → has_gno ys gno ≡ true → has_gno (xs ++ ys) gno ≡ true
has_gno_behind xs ys gno h = has_gno-append xs ys gno ∙ or_right (has_gno xs gno) (has_gno ys gno) h

pub has_gno_cases : (xs ys : List ℕ) (gno : ℕ) → has_gno (xs ++ ys) gno ≡ true → (has_gno xs gno ≡ true) ⊎ (has_gno ys gno ≡ true)
has_gno_cases xs ys gno h = or_cases (has_gno xs gno) (has_gno ys gno) (sym (has_gno-append xs ys gno) ∙ h)

pub lacks_both : (xs ys : List ℕ) (gno : ℕ) → has_gno xs gno ≡ false → has_gno ys gno ≡ false → has_gno (xs ++ ys) gno ≡ false
lacks_both xs ys gno h k = has_gno-append xs ys gno ∙ or_from (has_gno xs gno) (has_gno ys gno) h k

pub lacks_front : (xs ys : List ℕ) (gno : ℕ) → has_gno (xs ++ ys) gno ≡ false → has_gno xs gno ≡ false
lacks_front xs ys gno h = (or_parts (has_gno xs gno) (has_gno ys gno) (sym (has_gno-append xs ys gno) ∙ h)).0

pub lacks_behind : (xs ys : List ℕ) (gno : ℕ) → has_gno (xs ++ ys) gno ≡ false → has_gno ys gno ≡ false
lacks_behind xs ys gno h = (or_parts (has_gno xs gno) (has_gno ys gno) (sym (has_gno-append xs ys gno) ∙ h)).1

-- the number that stands in front, behind, and in the middle
pub has_gno_first : (gno : ℕ) (xs : List ℕ) → has_gno (gno ∷ xs) gno ≡ true
has_gno_first gno xs = or_left (eqb gno gno) (has_gno xs gno) (eq-eqb gno gno refl)

pub has_gno_last : (xs : List ℕ) (gno : ℕ) → has_gno (xs ++ gno ∷ []) gno ≡ true
has_gno_last xs gno = has_gno_behind xs (gno ∷ []) gno (has_gno_first gno [])

pub has_gno_between : (front : List ℕ) (gno : ℕ) (rest : List ℕ) → has_gno (front ++ gno ∷ rest) gno ≡ true
has_gno_between front gno rest = has_gno_behind front (gno ∷ rest) gno (has_gno_first gno rest)

-- one number alone
pub only_one : (gno other : ℕ) → has_gno (gno ∷ []) other ≡ true → gno ≡ other
only_one gno other h = eqb-true gno other (sym (or-false (eqb gno other)) ∙ h)

pub lacks_one : (gno other : ℕ) → (gno ≡ other → ⊥) → has_gno (gno ∷ []) other ≡ false
lacks_one gno other apart = or_from (eqb gno other) false (ne_eqb gno other apart) refl

-- one that is behind another in front
behind_first : (n : ℕ) (xs : List ℕ) (gno : ℕ) → (n ≡ gno → ⊥) → has_gno (n ∷ xs) gno ≡ has_gno xs gno
behind_first n xs gno apart = ap (λ b. b || has_gno xs gno) (ne_eqb n gno apart)

-- where one that is there stands: the first of it
pub has_gno_split : (xs : List ℕ) (gno : ℕ) → has_gno xs gno ≡ true → (front : List ℕ) × (rest : List ℕ) × (xs ≡ front ++ gno ∷ rest) × (has_gno front gno ≡ false)
has_gno_split [] gno h = absurd (false≢true h)
has_gno_split (n ∷ xs) gno h = elim (cases_eq n gno) [
  | inl same ↦ ([], xs, ap (λ m. m ∷ xs) same, refl)
  | inr apart ↦
      let s = has_gno_split xs gno (sym (behind_first n xs gno apart) ∙ h) in
      (n ∷ s.0, s.1, ap (λ l. n ∷ l) s.2, behind_first n s.0 gno apart ∙ s.3)
]

pub has_gno_at : (xs : List ℕ) (i d : ℕ) → i < length xs → has_gno xs (get_or xs i d) ≡ true
has_gno_at [] i d h = absurd (omega (arith, h))
has_gno_at (n ∷ xs) zero d h = has_gno_first n xs
has_gno_at (n ∷ xs) (suc i) d h = or_right (eqb n (get_or xs i d)) (has_gno xs (get_or xs i d)) (has_gno_at xs i d (omega (arith, h)))

-- what is so of each of them, by recursion and by their numbers
pub all_by_has : (P : ℕ → Type 0) (xs : List ℕ) → ((gno : ℕ) → has_gno xs gno ≡ true → P gno) → AllByRecursion P xs
all_by_has P [] all = tt
all_by_has P (n ∷ xs) all = (all n (has_gno_first n xs), all_by_has P xs (λ gno h. all gno (or_right (eqb n gno) (has_gno xs gno) h)))

pub has_by_all : (P : ℕ → Type 0) (xs : List ℕ) → AllByRecursion P xs → (gno : ℕ) → has_gno xs gno ≡ true → P gno
has_by_all P [] all gno h = absurd (false≢true h)
has_by_all P (n ∷ xs) all gno h = elim (or_cases (eqb n gno) (has_gno xs gno) h) [
  | inl here ↦ subst P (eqb-true n gno here) all.0
  | inr there ↦ has_by_all P xs all.1 gno there
]

-- the beginning has only what the whole has
pub has_gno-take : (n : ℕ) (xs : List ℕ) (gno : ℕ) → has_gno (take n xs) gno ≡ true → has_gno xs gno ≡ true
has_gno-take n xs gno h = ap (λ l. has_gno l gno) (sym (take-append-drop n xs)) ∙ has_gno_front (take n xs) (drop n xs) gno h

pub lacks-take : (n : ℕ) (xs : List ℕ) (gno : ℕ) → has_gno xs gno ≡ false → has_gno (take n xs) gno ≡ false
lacks-take n xs gno h = lacks_front (take n xs) (drop n xs) gno (ap (λ l. has_gno l gno) (take-append-drop n xs) ∙ h)

-- ---- without a number

removed_first : (b : Bool) (n p : ℕ) (xs : List ℕ) → remove (n ∷ xs) (cond (not b) (1 + p) 0) ≡ cond b xs (n ∷ remove xs p)
removed_first true n p xs = refl
removed_first false n p xs = let next : 1 + p ≡ suc p = omega arith in ap (λ i. remove (n ∷ xs) i) next

pub without-cons : (gno n : ℕ) (xs : List ℕ) → without gno (n ∷ xs) ≡ cond (eqb n gno) xs (n ∷ without gno xs)
without-cons gno n xs = removed_first (eqb n gno) n (position_or_len (λ (m : ℕ). eqb m gno) xs) xs

without_here : (gno n : ℕ) (xs : List ℕ) → n ≡ gno → without gno (n ∷ xs) ≡ xs
without_here gno n xs same = without-cons gno n xs ∙ cond-true (eqb n gno) xs (n ∷ without gno xs) (eq-eqb n gno same)

without_later : (gno n : ℕ) (xs : List ℕ) → (n ≡ gno → ⊥) → without gno (n ∷ xs) ≡ n ∷ without gno xs
without_later gno n xs apart = without-cons gno n xs ∙ cond-false (eqb n gno) xs (n ∷ without gno xs) (ne_eqb n gno apart)

-- a number that is not there is not the first
apart_from_first : (n : ℕ) (xs : List ℕ) (gno : ℕ) → has_gno (n ∷ xs) gno ≡ false → n ≡ gno → ⊥
apart_from_first n xs gno h = eqb-false n gno (or_parts (eqb n gno) (has_gno xs gno) h).0

lacks_rest : (n : ℕ) (xs : List ℕ) (gno : ℕ) → has_gno (n ∷ xs) gno ≡ false → has_gno xs gno ≡ false
lacks_rest n xs gno h = (or_parts (eqb n gno) (has_gno xs gno) h).1

pub without_absent : (gno : ℕ) (xs : List ℕ) → has_gno xs gno ≡ false → without gno xs ≡ xs
without_absent gno [] h = refl
without_absent gno (n ∷ xs) h = without_later gno n xs (apart_from_first n xs gno h) ∙ ap (λ l. n ∷ l) (without_absent gno xs (lacks_rest n xs gno h))

-- the first of it goes
pub without_between : (gno : ℕ) (front rest : List ℕ) → has_gno front gno ≡ false → without gno (front ++ gno ∷ rest) ≡ front ++ rest
without_between gno [] rest h = without_here gno gno rest refl
without_between gno (n ∷ front) rest h =
    without_later gno n (front ++ gno ∷ rest) (apart_from_first n front gno h)
    ∙ ap (λ l. n ∷ l) (without_between gno front rest (lacks_rest n front gno h))

pub length-without : (gno : ℕ) (xs : List ℕ) → has_gno xs gno ≡ true → length (without gno xs) + 1 ≡ length xs
length-without gno xs h =
    let s = has_gno_split xs gno h in
    let less = ap (λ l. length (without gno l)) s.2 ∙ ap length (without_between gno s.0 s.1 s.3) in
    let all = ap length s.2 in
    omega (arith, less, all, length-append s.0 s.1, length-append s.0 (gno ∷ s.1))

pub without-append_left : (gno : ℕ) (xs ys : List ℕ) → has_gno xs gno ≡ true → without gno (xs ++ ys) ≡ without gno xs ++ ys
without-append_left gno [] ys h = absurd (false≢true h)
without-append_left gno (n ∷ xs) ys h = elim (cases_eq n gno) [
  | inl same ↦ without_here gno n (xs ++ ys) same ∙ sym (ap (λ l. l ++ ys) (without_here gno n xs same))
  | inr apart ↦
      without_later gno n (xs ++ ys) apart
      ∙ ap (λ l. n ∷ l) (without-append_left gno xs ys (sym (behind_first n xs gno apart) ∙ h))
      ∙ sym (ap (λ l. l ++ ys) (without_later gno n xs apart))
]

pub without-append_right : (gno : ℕ) (xs ys : List ℕ) → has_gno xs gno ≡ false → without gno (xs ++ ys) ≡ xs ++ without gno ys
without-append_right gno [] ys h = refl
without-append_right gno (n ∷ xs) ys h =
    without_later gno n (xs ++ ys) (apart_from_first n xs gno h) ∙ ap (λ l. n ∷ l) (without-append_right gno xs ys (lacks_rest n xs gno h))

-- the others stay
pub has_gno-without_other : (gno : ℕ) (xs : List ℕ) (other : ℕ) → (other ≡ gno → ⊥) → has_gno (without gno xs) other ≡ has_gno xs other
has_gno-without_other gno [] other ne = refl
has_gno-without_other gno (n ∷ xs) other ne = elim (cases_eq n gno) [
  | inl same ↦ ap (λ l. has_gno l other) (without_here gno n xs same) ∙ sym (behind_first n xs other (λ e. ne (sym e ∙ same)))
  | inr apart ↦
      ap (λ l. has_gno l other) (without_later gno n xs apart)
      ∙ ap (λ b. eqb n other || b) (has_gno-without_other gno xs other ne)
]

-- and where it came once, it is gone
pub has_gno-without_same : (gno : ℕ) (xs : List ℕ) → AreDistinct xs → has_gno (without gno xs) gno ≡ false
has_gno-without_same gno [] d = refl
has_gno-without_same gno (n ∷ xs) d = elim (cases_eq n gno) [
  | inl same ↦ ap (λ l. has_gno l gno) (without_here gno n xs same) ∙ ap (has_gno xs) (sym same) ∙ d.0
  | inr apart ↦
      ap (λ l. has_gno l gno) (without_later gno n xs apart)
      ∙ behind_first n (without gno xs) gno apart
      ∙ has_gno-without_same gno xs d.1
]

pub has_gno_of_without : (gno : ℕ) (xs : List ℕ) (other : ℕ) → has_gno (without gno xs) other ≡ true → has_gno xs other ≡ true
has_gno_of_without gno [] other h = h
has_gno_of_without gno (n ∷ xs) other h = elim (cases_eq n gno) [
  | inl same ↦ or_right (eqb n other) (has_gno xs other) (ap (λ l. has_gno l other) (sym (without_here gno n xs same)) ∙ h)
  | inr apart ↦ elim (or_cases (eqb n other) (has_gno (without gno xs) other) (ap (λ l. has_gno l other) (sym (without_later gno n xs apart)) ∙ h)) [
    | inl here ↦ or_left (eqb n other) (has_gno xs other) here
    | inr there ↦ or_right (eqb n other) (has_gno xs other) (has_gno_of_without gno xs other there)
  ]
]

pub lacks-without : (gno : ℕ) (xs : List ℕ) (other : ℕ) → has_gno xs other ≡ false → has_gno (without gno xs) other ≡ false
lacks-without gno xs other h = false_from_ne_true (has_gno (without gno xs) other) (λ t. both_ways (has_gno xs other) h (has_gno_of_without gno xs other t))

-- ---- distinct numbers

pub AreDistinct-without : (gno : ℕ) (xs : List ℕ) → AreDistinct xs → AreDistinct (without gno xs)
AreDistinct-without gno [] d = tt
AreDistinct-without gno (n ∷ xs) d = elim (cases_eq n gno) [
  | inl same ↦ subst (λ (l : List ℕ). AreDistinct l) (sym (without_here gno n xs same)) d.1
  | inr apart ↦ subst (λ (l : List ℕ). AreDistinct l) (sym (without_later gno n xs apart)) (lacks-without gno xs n d.0, AreDistinct-without gno xs d.1)
]

pub AreDistinct-push : (xs : List ℕ) (gno : ℕ) → AreDistinct xs → has_gno xs gno ≡ false → AreDistinct (xs ++ gno ∷ [])
AreDistinct-push [] gno d h = (refl, tt)
AreDistinct-push (n ∷ xs) gno d h = (
  lacks_both xs (gno ∷ []) n d.0 (lacks_one gno n (λ e. apart_from_first n xs gno h (sym e))),
  AreDistinct-push xs gno d.1 (lacks_rest n xs gno h),
)

pub AreDistinct_front : (xs ys : List ℕ) → AreDistinct (xs ++ ys) → AreDistinct xs
AreDistinct_front [] ys d = tt
AreDistinct_front (n ∷ xs) ys d = (lacks_front xs ys n d.0, AreDistinct_front xs ys d.1)

pub AreDistinct_behind : (xs ys : List ℕ) → AreDistinct (xs ++ ys) → AreDistinct ys
AreDistinct_behind [] ys d = d
AreDistinct_behind (n ∷ xs) ys d = AreDistinct_behind xs ys d.1

-- what is in front is not behind
pub distinct_apart : (xs ys : List ℕ) → AreDistinct (xs ++ ys) → (gno : ℕ) → has_gno xs gno ≡ true → has_gno ys gno ≡ false
distinct_apart [] ys d gno h = absurd (false≢true h)
distinct_apart (n ∷ xs) ys d gno h = elim (or_cases (eqb n gno) (has_gno xs gno) h) [
  | inl here ↦ ap (has_gno ys) (sym (eqb-true n gno here)) ∙ lacks_behind xs ys n d.0
  | inr there ↦ distinct_apart xs ys d.1 gno there
]

pub distinct_apart_behind : (xs ys : List ℕ) → AreDistinct (xs ++ ys) → (gno : ℕ) → has_gno ys gno ≡ true → has_gno xs gno ≡ false
distinct_apart_behind xs ys d gno h = false_from_ne_true (has_gno xs gno) (λ t. both_ways (has_gno ys gno) (distinct_apart xs ys d gno t) h)

pub AreDistinct-append : (xs ys : List ℕ) → AreDistinct xs → AreDistinct ys → ((gno : ℕ) → has_gno xs gno ≡ true → has_gno ys gno ≡ false) → AreDistinct (xs ++ ys)
AreDistinct-append [] ys d e apart = e
AreDistinct-append (n ∷ xs) ys d e apart = (
  lacks_both xs ys n d.0 (apart n (has_gno_first n xs)),
  AreDistinct-append xs ys d.1 e (λ gno h. apart gno (or_right (eqb n gno) (has_gno xs gno) h)),
)

pub AreDistinct-take : (n : ℕ) (xs : List ℕ) → AreDistinct xs → AreDistinct (take n xs)
AreDistinct-take n xs d = AreDistinct_front (take n xs) (drop n xs) (subst (λ (l : List ℕ). AreDistinct l) (sym (take-append-drop n xs)) d)

-- the one in the middle is not in front, and not behind
pub distinct_between : (front : List ℕ) (gno : ℕ) (rest : List ℕ) → AreDistinct (front ++ gno ∷ rest) → has_gno front gno ≡ false
distinct_between front gno rest d = distinct_apart_behind front (gno ∷ rest) d gno (has_gno_first gno rest)

pub distinct_past : (front : List ℕ) (gno : ℕ) (rest : List ℕ) → AreDistinct (front ++ gno ∷ rest) → has_gno rest gno ≡ false
distinct_past front gno rest d = (AreDistinct_behind front (gno ∷ rest) d).0

-- ---- three lists

pub has_gno_three : (xs ys zs : List ℕ) (gno : ℕ) → has_gno (xs ++ (ys ++ zs)) gno ≡ (has_gno xs gno || (has_gno ys gno || has_gno zs gno))
has_gno_three xs ys zs gno = has_gno-append xs (ys ++ zs) gno ∙ ap (λ b. has_gno xs gno || b) (has_gno-append ys zs gno)

-- none of these is among those
abbrev pub AreApart : List ℕ → List ℕ → Type 0
AreApart xs ys = (gno : ℕ) → has_gno xs gno ≡ true → has_gno ys gno ≡ false

turned : (xs ys : List ℕ) → AreApart xs ys → AreApart ys xs
turned xs ys apart gno h = false_from_ne_true (has_gno xs gno) (λ t. both_ways (has_gno ys gno) (apart gno t) h)

-- each is distinct, and they are apart
pub record AreThree (xs ys zs : List ℕ) : Type 0 where
  pub first : AreDistinct xs
  pub second : AreDistinct ys
  pub third : AreDistinct zs
  pub first_second : AreApart xs ys
  pub first_third : AreApart xs zs
  pub second_third : AreApart ys zs

pub parts_of_three : (xs ys zs : List ℕ) → AreDistinct (xs ++ (ys ++ zs)) → AreThree xs ys zs
parts_of_three xs ys zs d =
    let behind : AreDistinct (ys ++ zs) = AreDistinct_behind xs (ys ++ zs) d in
    record {
      first = AreDistinct_front xs (ys ++ zs) d;
      second = AreDistinct_front ys zs behind;
      third = AreDistinct_behind ys zs behind;
      first_second = λ gno h. lacks_front ys zs gno (distinct_apart xs (ys ++ zs) d gno h);
      first_third = λ gno h. lacks_behind ys zs gno (distinct_apart xs (ys ++ zs) d gno h);
      second_third = distinct_apart ys zs behind;
    }

pub three_of_parts : (xs ys zs : List ℕ) → AreThree xs ys zs → AreDistinct (xs ++ (ys ++ zs))
three_of_parts xs ys zs are =
    AreDistinct-append xs (ys ++ zs) are.first (AreDistinct-append ys zs are.second are.third are.second_third)
    (λ gno h. lacks_both ys zs gno (are.first_second gno h) (are.first_third gno h))

-- another number comes in front, or behind
apart_push : (xs ys : List ℕ) (gno : ℕ) → AreApart xs ys → has_gno xs gno ≡ false → AreApart xs (ys ++ gno ∷ [])
apart_push xs ys gno apart lacks other h =
    lacks_both ys (gno ∷ []) other (apart other h) (lacks_one gno other (λ e. both_ways (has_gno xs gno) lacks (ap (has_gno xs) e ∙ h)))

push_apart : (xs ys : List ℕ) (gno : ℕ) → AreApart xs ys → has_gno ys gno ≡ false → AreApart (xs ++ gno ∷ []) ys
push_apart xs ys gno apart lacks = turned ys (xs ++ gno ∷ []) (apart_push ys xs gno (turned xs ys apart) lacks)

apart-without : (xs ys : List ℕ) (gno : ℕ) → AreApart xs ys → AreApart xs (without gno ys)
apart-without xs ys gno apart other h = lacks-without gno ys other (apart other h)

without-apart : (xs ys : List ℕ) (gno : ℕ) → AreApart xs ys → AreApart (without gno xs) ys
without-apart xs ys gno apart other h = apart other (has_gno_of_without gno xs other h)

-- They stay distinct as a new number comes into the second; as a number goes from the second to the end of the third; and as one goes
-- from the third to the end of the first.
pub distinct_entered : (xs ys zs : List ℕ) (gno : ℕ) → AreDistinct (xs ++ (ys ++ zs)) → has_gno (xs ++ (ys ++ zs)) gno ≡ false → AreDistinct (xs ++ ((ys ++ gno ∷ []) ++ zs))
distinct_entered xs ys zs gno d h =
    let are = parts_of_three xs ys zs d in
    let behind : has_gno (ys ++ zs) gno ≡ false = lacks_behind xs (ys ++ zs) gno h in
    three_of_parts xs (ys ++ gno ∷ []) zs (record {
      first = are.first;
      second = AreDistinct-push ys gno are.second (lacks_front ys zs gno behind);
      third = are.third;
      first_second = apart_push xs ys gno are.first_second (lacks_front xs (ys ++ zs) gno h);
      first_third = are.first_third;
      second_third = push_apart ys zs gno are.second_third (lacks_behind ys zs gno behind);
    })

pub distinct_moved_behind : (xs ys zs : List ℕ) (gno : ℕ) → AreDistinct (xs ++ (ys ++ zs)) → has_gno ys gno ≡ true → AreDistinct (xs ++ (without gno ys ++ (zs ++ gno ∷ [])))
distinct_moved_behind xs ys zs gno d h =
    let are = parts_of_three xs ys zs d in
    three_of_parts xs (without gno ys) (zs ++ gno ∷ []) (record {
      first = are.first;
      second = AreDistinct-without gno ys are.second;
      third = AreDistinct-push zs gno are.third (are.second_third gno h);
      first_second = apart-without xs ys gno are.first_second;
      first_third = apart_push xs zs gno are.first_third (turned xs ys are.first_second gno h);
      second_third = apart_push (without gno ys) zs gno (without-apart ys zs gno are.second_third) (has_gno-without_same gno ys are.second);
    })

pub distinct_moved_front : (xs ys zs : List ℕ) (gno : ℕ) → AreDistinct (xs ++ (ys ++ zs)) → has_gno zs gno ≡ true → AreDistinct ((xs ++ gno ∷ []) ++ (ys ++ without gno zs))
distinct_moved_front xs ys zs gno d h =
    let are = parts_of_three xs ys zs d in
    three_of_parts (xs ++ gno ∷ []) ys (without gno zs) (record {
      first = AreDistinct-push xs gno are.first (turned xs zs are.first_third gno h);
      second = are.second;
      third = AreDistinct-without gno zs are.third;
      first_second = push_apart xs ys gno are.first_second (turned ys zs are.second_third gno h);
      first_third = push_apart xs (without gno zs) gno (apart-without xs zs gno are.first_third) (has_gno-without_same gno zs are.third);
      second_third = apart-without ys zs gno are.second_third;
    })

-- and which numbers they then have

or_moved : (a b c d : Bool) → (a || ((b || d) || c)) ≡ ((a || (b || c)) || d)
or_moved true b c d = refl
or_moved false true c d = refl
or_moved false false true true = refl
or_moved false false true false = refl
or_moved false false false true = refl
or_moved false false false false = refl

-- of one that is not the last, the rest tells
not_last : (xs : List ℕ) (gno other : ℕ) → (other ≡ gno → ⊥) → has_gno (xs ++ gno ∷ []) other ≡ has_gno xs other
not_last xs gno other apart = has_gno-push xs gno other ∙ ap (λ b. has_gno xs other || b) (ne_eqb gno other (λ e. apart (sym e))) ∙ or-false (has_gno xs other)

pub has_gno_entered : (xs ys zs : List ℕ) (gno other : ℕ) → has_gno (xs ++ ((ys ++ gno ∷ []) ++ zs)) other ≡ (has_gno (xs ++ (ys ++ zs)) other || eqb gno other)
has_gno_entered xs ys zs gno other =
    has_gno_three xs (ys ++ gno ∷ []) zs other
    ∙ ap (λ b. has_gno xs other || (b || has_gno zs other)) (has_gno-push ys gno other)
    ∙ or_moved (has_gno xs other) (has_gno ys other) (has_gno zs other) (eqb gno other)
    ∙ sym (ap (λ b. b || eqb gno other) (has_gno_three xs ys zs other))

pub has_gno_moved_behind : (xs ys zs : List ℕ) (gno other : ℕ) → has_gno ys gno ≡ true → has_gno (xs ++ (without gno ys ++ (zs ++ gno ∷ []))) other ≡ has_gno (xs ++ (ys ++ zs)) other
has_gno_moved_behind xs ys zs gno other h = elim (cases_eq other gno) [
  | inl same ↦
      has_gno_behind xs (without gno ys ++ (zs ++ gno ∷ [])) other
      (has_gno_behind (without gno ys) (zs ++ gno ∷ []) other (ap (has_gno (zs ++ gno ∷ [])) same ∙ has_gno_last zs gno))
      ∙ sym (has_gno_behind xs (ys ++ zs) other (has_gno_front ys zs other (ap (has_gno ys) same ∙ h)))
  | inr apart ↦
      has_gno_three xs (without gno ys) (zs ++ gno ∷ []) other
      ∙ ap (λ b. has_gno xs other || (b || has_gno (zs ++ gno ∷ []) other)) (has_gno-without_other gno ys other apart)
      ∙ ap (λ b. has_gno xs other || (has_gno ys other || b)) (not_last zs gno other apart)
      ∙ sym (has_gno_three xs ys zs other)
]

pub has_gno_moved_front : (xs ys zs : List ℕ) (gno other : ℕ) → has_gno zs gno ≡ true → has_gno ((xs ++ gno ∷ []) ++ (ys ++ without gno zs)) other ≡ has_gno (xs ++ (ys ++ zs)) other
has_gno_moved_front xs ys zs gno other h = elim (cases_eq other gno) [
  | inl same ↦
      has_gno_front (xs ++ gno ∷ []) (ys ++ without gno zs) other (ap (has_gno (xs ++ gno ∷ [])) same ∙ has_gno_last xs gno)
      ∙ sym (has_gno_behind xs (ys ++ zs) other (has_gno_behind ys zs other (ap (has_gno zs) same ∙ h)))
  | inr apart ↦
      has_gno_three (xs ++ gno ∷ []) ys (without gno zs) other
      ∙ ap (λ b. b || (has_gno ys other || has_gno (without gno zs) other)) (not_last xs gno other apart)
      ∙ ap (λ b. has_gno xs other || (has_gno ys other || b)) (has_gno-without_other gno zs other apart)
      ∙ sym (has_gno_three xs ys zs other)
]

-- ---- the low-water mark

-- none is above the bound
within_bound : (gnos : List ℕ) (gno : ℕ) → has_gno gnos gno ≡ true → gno ≤ bound_of gnos
within_bound [] gno h = absurd (false≢true h)
within_bound (n ∷ gnos) gno h = elim (or_cases (eqb n gno) (has_gno gnos gno) h) [
  | inl here ↦ omega (arith, eqb-true n gno here)
  | inr there ↦ omega (arith, within_bound gnos gno there)
]

low_from_is_low : (gnos : List ℕ) (steps from : ℕ) → ((gno : ℕ) → 1 ≤ gno → gno ≤ from → has_gno gnos gno ≡ true) → bound_of gnos ≤ from + steps → IsLow gnos (low_from gnos steps from)
low_from_is_low gnos zero from all enough = record {
  all = all;
  next = false_from_ne_true (has_gno gnos (from + 1)) (λ t. omega (arith, enough, within_bound gnos (from + 1) t));
}
low_from_is_low gnos (suc steps) from all enough = elim (cases_Bool (has_gno gnos (from + 1))) [
  | inl there ↦
      subst (IsLow gnos) (sym (cond-true (has_gno gnos (from + 1)) (low_from gnos steps (from + 1)) from there))
      (low_from_is_low gnos steps (from + 1) (λ gno h k. elim (cases_eq gno (from + 1)) [
        | inl last ↦ ap (has_gno gnos) last ∙ there
        | inr before ↦ all gno h (omega (arith, k, before))
      ]) (omega (arith, enough)))
  | inr gone ↦
      subst (IsLow gnos) (sym (cond-false (has_gno gnos (from + 1)) (low_from gnos steps (from + 1)) from gone))
      (record { all = all; next = gone })
]

pub low_is_low : LowIsLow
low_is_low gnos = low_from_is_low gnos (bound_of gnos) 0 (λ gno h k. absurd (omega (arith, h, k))) (omega arith)

pub one_low : OneLow
one_low gnos others m n same is are = elim (cases_order m n) [
  | inl equal ↦ equal
  | inr apart ↦ elim apart [
    | inl below ↦ absurd (both_ways (has_gno gnos (m + 1)) is.next (same (m + 1) (omega arith) ∙ are.all (m + 1) (omega arith) (omega (arith, below))))
    | inr above ↦ absurd (both_ways (has_gno others (n + 1)) are.next (sym (same (n + 1) (omega arith)) ∙ is.all (n + 1) (omega arith) (omega (arith, above))))
  ]
]

-- it is of the set, and not of the list
pub low_of_same : (gnos others : List ℕ) → ((gno : ℕ) → 1 ≤ gno → has_gno gnos gno ≡ has_gno others gno) → low_of gnos ≡ low_of others
low_of_same gnos others same = one_low gnos others (low_of gnos) (low_of others) same (low_is_low gnos) (low_is_low others)

pub low_of_is : (gnos : List ℕ) (low : ℕ) → IsLow gnos low → low_of gnos ≡ low
low_of_is gnos low is = one_low gnos gnos (low_of gnos) low (λ gno h. refl) (low_is_low gnos) is

-- all up to the mark are among them, and the next is not
pub below_low : (gnos : List ℕ) (gno : ℕ) → 1 ≤ gno → gno ≤ low_of gnos → has_gno gnos gno ≡ true
below_low gnos gno h k = (low_is_low gnos).all gno h k

pub past_low : (gnos : List ℕ) → has_gno gnos (low_of gnos + 1) ≡ false
past_low gnos = (low_is_low gnos).next

-- where all up to a number are among them, the mark is not below it
pub low_reaches : (gnos : List ℕ) (n : ℕ) → ((gno : ℕ) → 1 ≤ gno → gno ≤ n → has_gno gnos gno ≡ true) → n ≤ low_of gnos
low_reaches gnos n all = elim (cases_lt (low_of gnos) n) [
  | inr up_to ↦ up_to
  | inl below ↦ absurd (both_ways (has_gno gnos (low_of gnos + 1)) (past_low gnos) (all (low_of gnos + 1) (omega arith) (omega (arith, below))))
]

-- more numbers have no lower mark
pub low_of_more : (gnos others : List ℕ) → ((gno : ℕ) → 1 ≤ gno → has_gno gnos gno ≡ true → has_gno others gno ≡ true) → low_of gnos ≤ low_of others
low_of_more gnos others more = low_reaches others (low_of gnos) (λ gno h k. more gno h (below_low gnos gno h k))

pub low_rises : LowRises
low_rises gnos more = low_of_more gnos (gnos ++ more) (λ gno h k. has_gno_front gnos more gno k)

pub low_of-take : (n : ℕ) (gnos : List ℕ) → low_of (take n gnos) ≤ low_of gnos
low_of-take n gnos = low_of_more (take n gnos) gnos (λ gno h k. has_gno-take n gnos gno k)

-- ---- how many

still_there : (n : ℕ) (xs ys : List ℕ) → has_gno xs n ≡ false → AllByRecursion (λ (gno : ℕ). has_gno ys gno ≡ true) xs → AllByRecursion (λ (gno : ℕ). has_gno (without n ys) gno ≡ true) xs
still_there n [] ys lacks all = tt
still_there n (x ∷ xs) ys lacks all = (
  has_gno-without_other n ys x (apart_from_first x xs n lacks) ∙ all.0,
  still_there n xs ys (lacks_rest x xs n lacks) all.1,
)

pub are_fewer : AreFewer
are_fewer [] ys d all = omega arith
are_fewer (n ∷ xs) ys d all =
    let rest : length xs ≤ length (without n ys) = are_fewer xs (without n ys) d.1 (still_there n xs ys d.0 all.1) in
    let one = length-without n ys all.0 in
    omega (arith, rest, one)

-- ---- the numbers from 1 on

pub has_first : HasFirst
has_first zero gno = nothing_up_to gno where
  nothing_up_to : (gno : ℕ) → false ≡ (leb 1 gno && leb gno 0)
  nothing_up_to gno = grind (arith, nat_tests)
has_first (suc n) gno = has_gno-push (first_gnos n) (suc n) gno ∙ ap (λ b. b || eqb (suc n) gno) (has_first n gno) ∙ one_more n gno where
  one_more : (n gno : ℕ) → ((leb 1 gno && leb gno n) || eqb (suc n) gno) ≡ (leb 1 gno && leb gno (suc n))
  one_more n gno = grind (arith, nat_tests)

pub first_gnos-next : (n : ℕ) → first_gnos (n + 1) ≡ first_gnos n ++ (n + 1) ∷ []
first_gnos-next n = let next : n + 1 ≡ suc n = omega arith in ap first_gnos next ∙ ap (λ k. first_gnos n ++ k ∷ []) (sym next)

pub length-first_gnos : (n : ℕ) → length (first_gnos n) ≡ n
length-first_gnos zero = refl
length-first_gnos (suc n) = omega (arith, length-append (first_gnos n) (suc n ∷ []), length-first_gnos n)

pub take-first_gnos : (n m : ℕ) → n ≤ m → take n (first_gnos m) ≡ first_gnos n
take-first_gnos n zero h = let none : n ≡ 0 = omega (arith, h) in ap (λ k. take k []) none ∙ ap first_gnos (sym none)
take-first_gnos n (suc m) h = elim (cases_eq n (suc m)) [
  | inl all ↦ take_all n (first_gnos (suc m)) (omega (arith, all, length-first_gnos (suc m))) ∙ ap first_gnos (sym all)
  | inr less ↦ take-append-le n (first_gnos m) (suc m ∷ []) (omega (arith, h, less, length-first_gnos m)) ∙ take-first_gnos n m (omega (arith, h, less))
]

pub AreDistinct-first_gnos : (n : ℕ) → AreDistinct (first_gnos n)
AreDistinct-first_gnos zero = tt
AreDistinct-first_gnos (suc n) = AreDistinct-push (first_gnos n) (suc n) (AreDistinct-first_gnos n) (has_first n (suc n) ∙ and_right (leb 1 (suc n)) (leb (suc n) n) (lt-leb (suc n) n (omega arith)))

pub low_of_first : LowOfFirst
low_of_first n = low_of_is (first_gnos n) n (record {
  all = λ gno h k. has_first n gno ∙ and_from (leb 1 gno) (leb gno n) (le-leb 1 gno h) (le-leb gno n k);
  next = has_first n (n + 1) ∙ and_right (leb 1 (n + 1)) (leb (n + 1) n) (lt-leb (n + 1) n (omega arith));
})

-- one of them is from 1 to n
among_first : (n gno : ℕ) → has_gno (first_gnos n) gno ≡ true → (1 ≤ gno) × (gno ≤ n)
among_first n gno h =
    let both = and_parts (leb 1 gno) (leb gno n) (sym (has_first n gno) ∙ h) in
    (leb-true 1 gno both.0, leb-true gno n both.1)

pub low_is_few : LowIsFew
low_is_few gnos d =
    let few = are_fewer (first_gnos (low_of gnos)) gnos (AreDistinct-first_gnos (low_of gnos))
    (all_by_has (λ (gno : ℕ). has_gno gnos gno ≡ true) (first_gnos (low_of gnos)) (λ gno h. let both = among_first (low_of gnos) gno h in below_low gnos gno both.0 both.1)) in
    omega (arith, few, length-first_gnos (low_of gnos))

-- distinct numbers that are just those from 1 to n are n
pub length_of_first : (gnos : List ℕ) (n : ℕ) → AreDistinct gnos → ((gno : ℕ) → has_gno gnos gno ≡ (leb 1 gno && leb gno n)) → length gnos ≡ n
length_of_first gnos n d are =
    let up = are_fewer gnos (first_gnos n) d (all_by_has (λ (gno : ℕ). has_gno (first_gnos n) gno ≡ true) gnos (λ gno h. has_first n gno ∙ sym (are gno) ∙ h)) in
    let down = are_fewer (first_gnos n) gnos (AreDistinct-first_gnos n) (all_by_has (λ (gno : ℕ). has_gno gnos gno ≡ true) (first_gnos n) (λ gno h. are gno ∙ sym (has_first n gno) ∙ h)) in
    omega (arith, up, down, length-first_gnos n)
