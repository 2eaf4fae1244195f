-- How many of the numbers are above a mark up to which all are among them.
use Rattle.std.proofs.Common.{◌≡◌, ℕ, zero, suc, ◌+◌, ◌≤◌, ◌==◌, ◌||◌, Bool, true, false, cond, List, [], ◌∷◌, ◌++◌, length, refl, sym, ap, subst, ◌∙◌, arith, length-append}
use Rattle.std.specs.Prelude.{nat_lt}
use Rattle.std.proofs.lemmas.Bool.{or_parts}
use Rattle.std.proofs.lemmas.Bool.Decides.{nat_tests}
use Rattle.std.proofs.lemmas.List.Sums.{sum_by-append, sum_by-cons}
use Rattle.store_trait.specs.declared.Op.{Op}
use Rattle.store_trait.specs.declared.Op.TheVariants.{Load, Commit}
use Rattle.scheduler.specs.Gnos.{has_gno, low_of, first_gnos, AreDistinct}
use Rattle.scheduler.proofs.Gnos.{below_low, has_first, length-first_gnos}
use Rattle.published.specs.History.{IsHistory, AreNew, gnos_of, commits_in, count_above}
use Rattle.published.specs.Gaps.{RiseBetween}
use Rattle.published.proofs.Histories.{history_distinct, count_gnos, gnos_in_order}

count_cons : (n x : ℕ) (gnos : List ℕ) → count_above n (x ∷ gnos) ≡ cond (nat_lt n x) 1 0 + count_above n gnos
count_cons n x gnos = sum_by-cons (λ (gno : ℕ). cond (nat_lt n gno) 1 0) x gnos

-- another number than the next is above both this one and the next, or above none
same_side : (n x : ℕ) → (x == n + 1) ≡ false → nat_lt n x ≡ nat_lt (n + 1) x
same_side n x other = sides n x (nat_lt n x) (nat_lt (n + 1) x) other refl refl where
  sides : (n x : ℕ) (a b : Bool) → (x == n + 1) ≡ false → nat_lt n x ≡ a → nat_lt (n + 1) x ≡ b → a ≡ b
  sides n x true true other p q = refl
  sides n x false false other p q = refl
  sides n x true false other p q = absurd (grind (arith, nat_tests, other, p, q))
  sides n x false true other p q = absurd (grind (arith, nat_tests, other, p, q))

above_lacks : (n : ℕ) (gnos : List ℕ) → has_gno gnos (n + 1) ≡ false → count_above n gnos ≡ count_above (n + 1) gnos
above_lacks n [] none = refl
above_lacks n (x ∷ gnos) none =
    let parts = or_parts (x == n + 1) (has_gno gnos (n + 1)) none in
    count_cons n x gnos
    ∙ ap (λ b. cond b 1 0 + count_above n gnos) (same_side n x parts.0) ∙ ap (λ m. cond (nat_lt (n + 1) x) 1 0 + m) (above_lacks n gnos parts.1)
    ∙ sym (count_cons (n + 1) x gnos)

above_has : (n : ℕ) (gnos : List ℕ) → AreDistinct gnos → has_gno gnos (n + 1) ≡ true → count_above n gnos ≡ count_above (n + 1) gnos + 1
above_has n [] d there = absurd (cc (there))
above_has n (x ∷ gnos) d there = split n x gnos (x == n + 1) refl d there (above_has n gnos d.1) where
  split : (n x : ℕ) (gnos : List ℕ) (b : Bool) → (x == n + 1) ≡ b → AreDistinct (x ∷ gnos) → has_gno (x ∷ gnos) (n + 1) ≡ true
      → (has_gno gnos (n + 1) ≡ true → count_above n gnos ≡ count_above (n + 1) gnos + 1) → count_above n (x ∷ gnos) ≡ count_above (n + 1) (x ∷ gnos) + 1
  split n x gnos true is d there rest =
      let same : x ≡ n + 1 = grind (arith, nat_tests, is) in
      let low : nat_lt n x ≡ true = grind (arith, nat_tests, same) in
      let next : nat_lt (n + 1) x ≡ false = grind (arith, nat_tests, same) in
      let others = above_lacks n gnos (subst (λ g. has_gno gnos g ≡ false) same d.0) in
      let here : count_above n (x ∷ gnos) ≡ 1 + count_above n gnos = count_cons n x gnos ∙ ap (λ b. cond b 1 0 + count_above n gnos) low in
      let past : count_above (n + 1) (x ∷ gnos) ≡ 0 + count_above (n + 1) gnos = count_cons (n + 1) x gnos ∙ ap (λ b. cond b 1 0 + count_above (n + 1) gnos) next in
      omega (arith, others, here, past)
  split n x gnos false is d there rest =
      let more = rest (subst (λ b. (b || has_gno gnos (n + 1)) ≡ true) is there) in
      let here : count_above n (x ∷ gnos) ≡ cond (nat_lt (n + 1) x) 1 0 + count_above n gnos = count_cons n x gnos ∙ ap (λ b. cond b 1 0 + count_above n gnos) (same_side n x is) in
      omega (arith, more, here, count_cons (n + 1) x gnos)

above_zero : (gnos : List ℕ) → has_gno gnos 0 ≡ false → count_above 0 gnos ≡ length gnos
above_zero [] none = refl
above_zero (x ∷ gnos) none =
    let parts = or_parts (x == 0) (has_gno gnos 0) none in
    let some : nat_lt 0 x ≡ true = grind (arith, nat_tests, parts.0) in
    let here : count_above 0 (x ∷ gnos) ≡ 1 + count_above 0 gnos = count_cons 0 x gnos ∙ ap (λ b. cond b 1 0 + count_above 0 gnos) some in
    omega (arith, here, above_zero gnos parts.1)

above_low : (low : ℕ) (gnos : List ℕ) → AreDistinct gnos → has_gno gnos 0 ≡ false → ((gno : ℕ) → 1 ≤ gno → gno ≤ low → has_gno gnos gno ≡ true) → count_above low gnos + low ≡ length gnos
above_low zero gnos d none all = omega (arith, above_zero gnos none)
above_low (suc n) gnos d none all =
    let step : count_above n gnos ≡ count_above (n + 1) gnos + 1 = above_has n gnos d (all (n + 1) (omega arith) (omega arith)) in
    let next : count_above (n + 1) gnos ≡ count_above (suc n) gnos = ap (λ k. count_above k gnos) (one n) in
    omega (arith, step, next, above_low n gnos d none (λ gno some le. all gno some (omega (arith, le)))) where
      one : (n : ℕ) → n + 1 ≡ suc n
      one n = omega arith

-- ---- of a history

no_zero : (preserve : Bool) (ops : List Op) → IsHistory preserve ops → has_gno (gnos_of ops) 0 ≡ false
no_zero true ops h = ap (λ l. has_gno l 0) (gnos_in_order ops h) ∙ has_first (commits_in ops) 0
no_zero false [] h = absurd h
no_zero false (Load base ∷ ops) h = none [] ops h where
  none : (gone : List ℕ) (ops : List Op) → AreNew gone ops → has_gno (gnos_of ops) 0 ≡ false
  none gone [] h = refl
  none gone (Load base ∷ ops) h = absurd h
  none gone (Commit gno batch ∷ ops) h =
      let other : (gno == 0) ≡ false = grind (arith, nat_tests, h.0) in
      rw other (none (gone ++ gno ∷ []) ops h.2)
no_zero false (Commit gno batch ∷ ops) h = absurd h

-- of a history's commits those above the mark and those up to it are all
pub history_above : (preserve : Bool) (ops : List Op) → IsHistory preserve ops → count_above (low_of (gnos_of ops)) (gnos_of ops) + low_of (gnos_of ops) ≡ commits_in ops
history_above preserve ops h =
    above_low (low_of (gnos_of ops)) (gnos_of ops) (history_distinct preserve ops h) (no_zero preserve ops h) (λ gno some le. below_low (gnos_of ops) gno some le) ∙ count_gnos preserve ops h

-- ---- of numbers up to a mark, and rising numbers ahead of it

above_first : (n m : ℕ) → m ≤ n → count_above n (first_gnos m) ≡ 0
above_first n zero le = refl
above_first n (suc m) le =
    let last : nat_lt n (suc m) ≡ false = grind (arith, nat_tests, le) in
    let one : count_above n (suc m ∷ []) ≡ 0 + 0 = count_cons n (suc m) [] ∙ ap (λ b. cond b 1 0 + 0) last in
    let parts : count_above n (first_gnos (suc m)) ≡ count_above n (first_gnos m) + count_above n (suc m ∷ []) = sum_by-append (λ (gno : ℕ). cond (nat_lt n gno) 1 0) (first_gnos m) (suc m ∷ []) in
    omega (arith, one, parts, above_first n m (omega (arith, le)))

above_rise : (n least most : ℕ) (xs : List ℕ) → n ≤ least → RiseBetween least most xs → count_above n xs ≡ length xs
above_rise n least most [] le r = refl
above_rise n least most (x ∷ xs) le r =
    let more : nat_lt n x ≡ true = grind (arith, nat_tests, le, r.0) in
    let here : count_above n (x ∷ xs) ≡ 1 + count_above n xs = count_cons n x xs ∙ ap (λ b. cond b 1 0 + count_above n xs) more in
    omega (arith, here, above_rise n x most xs (omega (arith, le, r.0)) r.2)

-- the same of the numbers that are noted: those up to the mark, and those ahead of a gap
pub noted_above : (upto most : ℕ) (ahead : List ℕ) → RiseBetween (upto + 1) most ahead → count_above upto (first_gnos upto ++ ahead) + upto ≡ length (first_gnos upto ++ ahead)
noted_above upto most ahead r =
    let parts : count_above upto (first_gnos upto ++ ahead) ≡ count_above upto (first_gnos upto) + count_above upto ahead =
    sum_by-append (λ (gno : ℕ). cond (nat_lt upto gno) 1 0) (first_gnos upto) ahead in
    omega (arith, parts, above_first upto upto (omega arith), above_rise upto (upto + 1) most ahead (omega arith) r, length-append (first_gnos upto) ahead, length-first_gnos upto)
