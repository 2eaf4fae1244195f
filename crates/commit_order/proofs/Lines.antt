-- The numbers of the results that wait for their turn, and which of them it is.
use Rattle.std.proofs.Common.{◌≡◌, ◌∙◌, sym, ap, refl, subst, ℕ, zero, suc, ◌+◌, ◌<◌, Bool, true, false, not, ◌||◌, cond, List, [], ◌∷◌, ◌++◌, length, map, take, drop, get_or, Some, None, inl, inr}
use Rattle.std.proofs.Common.{arith, eqb}
use Rattle.std.specs.Prelude.{slice_get}
use Rattle.std.specs.Option.{option_map}
use Rattle.std.specs.List.{position_or_len, remove, AllByRecursion}
use Rattle.std.proofs.lemmas.Bool.{cases_Bool, eqb-true, eq-eqb, cond-true, cond-false, false≢true, or_right}
use Rattle.std.proofs.lemmas.List.{map-append, take-map, drop-map}
use Rattle.std.proofs.lemmas.List.Sums.{passes_at_first}
use Rattle.std.proofs.lemmas.Option.{slice_get_past, slice_get_within, slice_get-get_or, get_or_from_slice_get, slice_get-map}
use Rattle.schema.proofs.Lists.{AllByRecursion-push, AllByRecursion-at}
use Rattle.executor.specs.Job.{Finished}
use Rattle.scheduler.specs.Gnos.{has_gno, without}
use Rattle.scheduler.proofs.Gnos.{without-cons, has_gno_first}
use Rattle.commit_order.specs.Turns.{Line, with_result, first_of, place_of, turn, passed, TurnIsNext}

-- the number of a result, and the numbers of these
abbrev pub gno_of : Finished → ℕ
gno_of result = result.job.gno

abbrev pub gnos_of : List Finished → List ℕ
gnos_of done = map (λ (result : Finished). result.job.gno) done

-- the first of a number, by their numbers
pub first_of-gnos : (done : List Finished) (gno : ℕ) → first_of done gno ≡ position_or_len (λ (n : ℕ). eqb n gno) (gnos_of done)
first_of-gnos [] gno = refl
first_of-gnos (result ∷ done) gno = ap (λ (n : ℕ). cond (not (eqb result.job.gno gno)) (1 + n) 0) (first_of-gnos done gno)

-- it is within them exactly where the number is there

step_within : (here later : Bool) (n all : ℕ) → (later ≡ true → n < all) → (here || later) ≡ true → cond (not here) (1 + n) 0 < suc all
step_within true later n all rest h = omega arith
step_within false later n all rest h = let r = rest h in omega (arith, r)

step_past : (here later : Bool) (n all : ℕ) → (later ≡ false → n ≡ all) → (here || later) ≡ false → cond (not here) (1 + n) 0 ≡ suc all
step_past true later n all rest h = absurd (false≢true (sym h))
step_past false later n all rest h = let r = rest h in omega (arith, r)

pub first_of_within : (done : List Finished) (gno : ℕ) → has_gno (gnos_of done) gno ≡ true → first_of done gno < length done
first_of_within [] gno h = absurd (false≢true h)
first_of_within (result ∷ done) gno h = step_within (eqb result.job.gno gno) (has_gno (gnos_of done) gno) (first_of done gno) (length done) (λ t. first_of_within done gno t) h

pub first_of_past : (done : List Finished) (gno : ℕ) → has_gno (gnos_of done) gno ≡ false → first_of done gno ≡ length done
first_of_past [] gno h = refl
first_of_past (result ∷ done) gno h = step_past (eqb result.job.gno gno) (has_gno (gnos_of done) gno) (first_of done gno) (length done) (λ t. first_of_past done gno t) h

-- and so it is with numbers alone
pub position_within : (gnos : List ℕ) (gno : ℕ) → has_gno gnos gno ≡ true → position_or_len (λ (n : ℕ). eqb n gno) gnos < length gnos
position_within [] gno h = absurd (false≢true h)
position_within (n ∷ gnos) gno h = step_within (eqb n gno) (has_gno gnos gno) (position_or_len (λ (m : ℕ). eqb m gno) gnos) (length gnos) (λ t. position_within gnos gno t) h

-- what stands there has the number
first_has : (done : List Finished) (gno : ℕ) (result : Finished) → slice_get done (first_of done gno) ≡ Some result → result.job.gno ≡ gno
first_has done gno result is =
    let within = slice_get_within done (first_of done gno) result is in
    let here = passes_at_first (λ (other : Finished). eqb other.job.gno gno) done result within in
    let same = get_or_from_slice_get done (first_of done gno) result result is in
    eqb-true result.job.gno gno (ap (λ (other : Finished). eqb other.job.gno gno) (sym same) ∙ here)

-- ---- whose turn it is

place_kept : (line : Line) → line.preserve ≡ true → place_of line ≡ first_of line.done line.next
place_kept line kept = cond-true line.preserve (first_of line.done line.next) 0 kept

place_free : (line : Line) → line.preserve ≡ false → place_of line ≡ 0
place_free line free = cond-false line.preserve (first_of line.done line.next) 0 free

pub turn_is_next : TurnIsNext
turn_is_next line result kept is = first_has line.done line.next result (ap (slice_get line.done) (sym (place_kept line kept)) ∙ is)

-- in the order of the log that of the next record, exactly where its result came
pub some_kept : (line : Line) → line.preserve ≡ true → has_gno (gnos_of line.done) line.next ≡ true → (result : Finished) × (turn line ≡ Some result) × (result.job.gno ≡ line.next)
some_kept line kept h = got line.done refl where
  got : (done : List Finished) → line.done ≡ done → (result : Finished) × (turn line ≡ Some result) × (result.job.gno ≡ line.next)
  got [] is = absurd (false≢true (ap (λ (l : List Finished). has_gno (gnos_of l) line.next) (sym is) ∙ h))
  got (first ∷ rest) is =
      let within = first_of_within line.done line.next h in
      let turn_is : turn line ≡ Some (get_or line.done (first_of line.done line.next) first) = ap (slice_get line.done) (place_kept line kept)
      ∙ slice_get-get_or line.done (first_of line.done line.next) first within in
      (get_or line.done (first_of line.done line.next) first, turn_is, turn_is_next line (get_or line.done (first_of line.done line.next) first) kept turn_is)

pub none_kept : (line : Line) → line.preserve ≡ true → has_gno (gnos_of line.done) line.next ≡ false → turn line ≡ None
none_kept line kept h =
    ap (slice_get line.done) (place_kept line kept)
    ∙ slice_get_past line.done (first_of line.done line.next) (let past = first_of_past line.done line.next h in omega (arith, past))

pub turn_kept : (line : Line) → line.preserve ≡ true → option_map (λ (result : Finished). result.job.gno) (turn line) ≡ cond (has_gno (gnos_of line.done) line.next) (Some line.next) None
turn_kept line kept = elim (cases_Bool (has_gno (gnos_of line.done) line.next)) [
  | inl there ↦
      let found = some_kept line kept there in
      ap (option_map (λ (result : Finished). result.job.gno)) found.1
      ∙ ap (λ (n : ℕ). Some n) found.2
      ∙ sym (cond-true (has_gno (gnos_of line.done) line.next) (Some line.next) None there)
  | inr gone ↦
      ap (option_map (λ (result : Finished). result.job.gno)) (none_kept line kept gone)
      ∙ sym (cond-false (has_gno (gnos_of line.done) line.next) (Some line.next) None gone)
]

-- else the one that came first
turn_first : (line : Line) → line.preserve ≡ false → turn line ≡ slice_get line.done 0
turn_first line free = ap (slice_get line.done) (place_free line free)

pub turn_free : (line : Line) → line.preserve ≡ false → option_map (λ (result : Finished). result.job.gno) (turn line) ≡ slice_get (gnos_of line.done) 0
turn_free line free =
    ap (option_map (λ (result : Finished). result.job.gno)) (turn_first line free)
    ∙ sym (slice_get-map (λ (result : Finished). result.job.gno) line.done 0)

pub some_free : (line : Line) (first : Finished) (rest : List Finished) → line.preserve ≡ false → line.done ≡ first ∷ rest → turn line ≡ Some first
some_free line first rest free is = turn_first line free ∙ ap (λ (l : List Finished). slice_get l 0) is

pub none_free : (line : Line) → line.preserve ≡ false → line.done ≡ [] → turn line ≡ None
none_free line free is = turn_first line free ∙ ap (λ (l : List Finished). slice_get l 0) is

-- it is one of those that wait
pub turn_within : (line : Line) (result : Finished) → turn line ≡ Some result → place_of line < length line.done
turn_within line result is = slice_get_within line.done (place_of line) result is

pub turn_waits : (line : Line) (result : Finished) → turn line ≡ Some result → has_gno (gnos_of line.done) result.job.gno ≡ true
turn_waits line result is = waits line.done (place_of line) is where
  waits : (done : List Finished) (place : ℕ) → slice_get done place ≡ Some result → has_gno (gnos_of done) result.job.gno ≡ true
  waits [] place e = absurd (cc)
  waits (other ∷ done) zero e =
      let same : other ≡ result = cc in
      ap (λ (r : Finished). has_gno (r.job.gno ∷ gnos_of done) result.job.gno) same ∙ has_gno_first result.job.gno (gnos_of done)
  waits (other ∷ done) (suc place) e = or_right (eqb other.job.gno result.job.gno) (has_gno (gnos_of done) result.job.gno) (waits done place e)

pub turn_has : (P : Finished → Type 0) (line : Line) (result : Finished) → turn line ≡ Some result → AllByRecursion P line.done → P result
turn_has P line result is all =
    subst P (get_or_from_slice_get line.done (place_of line) result result is) (AllByRecursion-at P line.done (place_of line) result all (turn_within line result is))

-- ---- the numbers as a result comes, and as one leaves

pub gnos-with_result : (line : Line) (result : Finished) → gnos_of (with_result line result).done ≡ gnos_of line.done ++ result.job.gno ∷ []
gnos-with_result line result = map-append (λ (other : Finished). other.job.gno) line.done (result ∷ [])

gnos-remove : (done : List Finished) (place : ℕ) → gnos_of (remove done place) ≡ remove (gnos_of done) place
gnos-remove done place =
    map-append (λ (other : Finished). other.job.gno) (take place done) (drop (suc place) done)
    ∙ ap (λ (l : List ℕ). l ++ gnos_of (drop (suc place) done)) (sym (take-map (λ (other : Finished). other.job.gno) place done))
    ∙ ap (λ (l : List ℕ). take place (gnos_of done) ++ l) (sym (drop-map (λ (other : Finished). other.job.gno) (suc place) done))

-- the first of all is the first of its number
first_leaves : (done : List Finished) (result : Finished) → slice_get done 0 ≡ Some result → remove (gnos_of done) 0 ≡ without result.job.gno (gnos_of done)
first_leaves [] result is = absurd (cc)
first_leaves (first ∷ rest) result is =
    let same : first ≡ result = cc in
    subst (λ (r : Finished). remove (gnos_of (first ∷ rest)) 0 ≡ without r.job.gno (gnos_of (first ∷ rest))) same
    (sym (without-cons first.job.gno first.job.gno (gnos_of rest) ∙ cond-true (eqb first.job.gno first.job.gno) (gnos_of rest) (first.job.gno ∷ without first.job.gno (gnos_of rest))
    (eq-eqb first.job.gno first.job.gno refl)))

pub gnos-passed : (line : Line) (result : Finished) → turn line ≡ Some result → gnos_of (passed line).done ≡ without result.job.gno (gnos_of line.done)
gnos-passed line result is = gnos-remove line.done (place_of line) ∙ elim (cases_Bool line.preserve) [
  | inl kept ↦
      ap (remove (gnos_of line.done)) (place_kept line kept ∙ first_of-gnos line.done line.next)
      ∙ ap (λ (n : ℕ). without n (gnos_of line.done)) (sym (turn_is_next line result kept is))
  | inr free ↦
      ap (remove (gnos_of line.done)) (place_free line free)
      ∙ first_leaves line.done result (sym (turn_first line free) ∙ is)
]

pub all_with_result : (P : Finished → Type 0) (line : Line) (result : Finished) → AllByRecursion P line.done → P result → AllByRecursion P (with_result line result).done
all_with_result P line result all here = AllByRecursion-push P line.done result all here

pub all_passed : (P : Finished → Type 0) (line : Line) → AllByRecursion P line.done → AllByRecursion P (passed line).done
all_passed P line all = removed line.done (place_of line) all where
  removed : (done : List Finished) (place : ℕ) → AllByRecursion P done → AllByRecursion P (remove done place)
  removed [] zero h = tt
  removed [] (suc place) h = tt
  removed (first ∷ rest) zero h = h.1
  removed (first ∷ rest) (suc place) h = (h.0, removed rest place h.1)
