-- Lists of numbers, and of what has a number each.
use Rattle.std.proofs.Common.{◌≡◌, ◌∙◌, sym, ap, refl, true≢false, ℕ, zero, suc, ◌+◌, ◌<◌, Bool, true, ◌||◌, not}
use Rattle.std.proofs.Common.{cond, eqb, inl, inr, List, [], ◌∷◌, ◌++◌, map, length, take, drop, Option, Some, arith, slice_get}
use Rattle.std.specs.List.{AllByRecursion, position_or_len, remove}
use Rattle.std.proofs.lemmas.Bool.{cases_Bool, eqb-true}
use Rattle.std.proofs.lemmas.List.{map-append, take-map, drop-map, length-drop}
use Rattle.executor.specs.Job.{Finished}
use Rattle.scheduler.specs.Gnos.{has_gno}
use Rattle.scheduler.proofs.Gnos.{has_gno_first, has_gno_behind}
use Rattle.commit_order.proofs.Lines.{gnos_of}
use Rattle.replica_core.specs.Core.{place_in}

-- what is found first behind so many
first_past : {X : Type 0} (xs : List X) (n : ℕ) → slice_get (drop n xs) 0 ≡ slice_get xs n
first_past xs zero = refl
first_past [] (suc n) = refl
first_past (x ∷ xs) (suc n) = first_past xs n

pub found_past : {X : Type 0} (xs : List X) (n count : ℕ) (past : List X) (found : Option X) → count ≡ n → past ≡ drop count xs → found ≡ slice_get past 0 → slice_get xs n ≡ found
found_past xs n count past found same is at = ap (slice_get xs) (sym same) ∙ sym (first_past xs count) ∙ sym (at ∙ ap (λ l. slice_get l 0) is)

pub within_past : {X : Type 0} (xs : List X) (count : ℕ) (past : List X) → count < length xs → past ≡ drop count xs → 0 < length past
within_past xs count past within is = omega (arith, within, ap length is, length-drop count xs)

-- what is the same of each of the numbers
pub same_each : {X : Type 0} (f g : ℕ → X) (gnos : List ℕ) → ((gno : ℕ) → has_gno gnos gno ≡ true → f gno ≡ g gno) → map f gnos ≡ map g gnos
same_each f g [] each = refl
same_each f g (gno ∷ gnos) each = λ i. each gno (has_gno_first gno gnos) i ∷ same_each f g gnos (λ n has. each n (has_gno_behind (gno ∷ []) gnos n has)) i

-- what is true of each of the results, by their numbers
pub all_each : (P Q : Finished → Type 0) (done : List Finished) → ((result : Finished) → has_gno (gnos_of done) result.job.gno ≡ true → P result → Q result) → AllByRecursion P done →
    AllByRecursion Q done
all_each P Q [] each all = tt
all_each P Q (first ∷ done) each all = (
  each first (has_gno_first first.job.gno (gnos_of done)) all.0,
  all_each P Q done (λ result has is. each result (has_gno_behind (first.job.gno ∷ []) (gnos_of done) result.job.gno has) is) all.1,
)

-- one taken off
pub remove-map : {X Y : Type 0} (f : X → Y) (n : ℕ) (xs : List X) → remove (map f xs) n ≡ map f (remove xs n)
remove-map f n xs = (λ i. take-map f n xs i ++ drop-map f (suc n) xs i) ∙ sym (map-append f (take n xs) (drop (suc n) xs))

-- the place of a number is that of the first that has it
pub place-map : {X : Type 0} (number : X → ℕ) (gno : ℕ) (xs : List X) → position_or_len (λ x. eqb (number x) gno) xs ≡ place_in (map number xs) gno
place-map number gno [] = refl
place-map number gno (x ∷ xs) = ap (λ n. cond (not (eqb (number x) gno)) (1 + n) 0) (place-map number gno xs)

-- and there it stands
pub place_there : (gnos : List ℕ) (gno : ℕ) → has_gno gnos gno ≡ true → slice_get gnos (place_in gnos gno) ≡ Some gno
place_there [] gno has = absurd (true≢false (sym has))
place_there (n ∷ gnos) gno has = elim (cases_Bool (eqb n gno)) [
  | inl same ↦ ap (λ (b : Bool). slice_get (n ∷ gnos) (cond (not b) (1 + place_in gnos gno) 0)) same ∙ ap Some (eqb-true n gno same)
  | inr apart ↦
      let next : 1 + place_in gnos gno ≡ suc (place_in gnos gno) = omega arith in
      ap (λ (b : Bool). slice_get (n ∷ gnos) (cond (not b) (1 + place_in gnos gno) 0)) apart ∙ ap (slice_get (n ∷ gnos)) next
      ∙ place_there gnos gno (ap (λ (b : Bool). b || has_gno gnos gno) (sym apart) ∙ has)
]
