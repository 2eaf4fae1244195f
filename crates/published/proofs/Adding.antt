-- The exchange that adds operations keeps the rule of the history.
use Rattle.std.proofs.Common.{◌≡◌, ℕ, ◌<◌, ◌≤◌, ◌==◌, Bool, true, false, List, [], ◌∷◌, ◌++◌, length, refl, ap, sym, subst, ◌∙◌, arith, inl, Option, eq-eqb, length-append}
use Rattle.std.specs.Bool.{OnTrue}
use Rattle.std.proofs.lemmas.List.{append-nil}
use Rattle.std.proofs.lemmas.Bool.Decides.{nat_tests}
use mathlib.Core.List.{IsPrefix}
use prog.Atomic.{either}
use Rattle.logbook.specs.Pages.{Cell, cell, keeps, no_nib, step, Moves, Goes}
use Rattle.store_trait.specs.declared.Op.{Op}
use Rattle.published.specs.History.{commits_in}
use Rattle.published.specs.Book.{operations_of, CountsCommits, Adds}
use Rattle.published.proofs.Histories.{same_history, prefix_of_operations, operations_of-snoc}

abbrev shown : List (List Op) → List (List Op)
shown log = []

abbrev moved : List (List Op) → List (List Op) → ℕ → Type 0
moved xs ys n = Unit {0}

-- Operations that come next behind those seen, and the numbers of both.
pub record AreNext (v : List (List Op)) (ops : List Op) (old new : ℕ) : Type 0 where
  pub number : commits_in (operations_of v) ≡ old
  pub begun : 1 ≤ length (operations_of v)
  pub size : new ≡ commits_in (operations_of v ++ ops)

adds_goes : (log v : List (List Op)) (ops : List Op) (old new : ℕ) (state : Option ℕ) → AreNext v ops old new
    → 1 ≤ length (operations_of log) → IsPrefix v log → (b : Bool) → (commits_in (operations_of log) == old) ≡ b
    → Goes CountsCommits shown moved 0 (v, (no_nib, state)) (λ n. either (n == old) new n) (Adds (step 0 old new ops) (v, (no_nib, state))) ((commits_in (operations_of log), true) ∷ []) log
adds_goes log v ops old new state are hlog pre true is =
    let here : commits_in (operations_of log) ≡ old = grind (arith, nat_tests) in
    let same : operations_of v ≡ operations_of log = same_history (operations_of v) (operations_of log) (prefix_of_operations v log pre) are.begun hlog (here ∙ sym are.number) in
    let longer : operations_of (log ++ ops ∷ []) ≡ operations_of log ++ ops = operations_of-snoc log ops in
    let more : 1 ≤ length (operations_of (log ++ ops ∷ [])) = omega (arith, ap (λ (l : List Op). length l) longer, length-append (operations_of log) ops) in
    let n : either (commits_in (operations_of log) == old) new (commits_in (operations_of log)) ≡ commits_in (operations_of (log ++ ops ∷ [])) =
    rw is (are.size ∙ ap (λ l. commits_in (l ++ ops)) same ∙ sym (ap commits_in longer)) in (
      keeps,
      ops ∷ [],
      state,
      tt,
      record { words = ap (λ (k : ℕ). (k, true) ∷ []) n; begun = more },
      inl (refl, refl),
      rw is (longer ∙ ap (λ l. l ++ ops) (sym same)),
    )
adds_goes log v ops old new state are hlog pre false is =
    let all : log ++ [] ≡ log = append-nil log in
    let n : either (commits_in (operations_of log) == old) new (commits_in (operations_of log)) ≡ commits_in (operations_of (log ++ [])) = rw is (ap (λ l. commits_in (operations_of l)) (sym all)) in (
      keeps,
      [],
      state,
      tt,
      record { words = ap (λ (k : ℕ). (k, true) ∷ []) n; begun = subst (λ l. 1 ≤ length (operations_of l)) (sym all) hlog },
      inl (refl, refl),
      rw is tt,
    )

-- whatever the history is, the exchange adds the operations to all that was seen, or finds that there are more
pub adds_moves : (v : List (List Op)) (ops : List Op) (old new : ℕ) (state : Option ℕ) → AreNext v ops old new
    → Moves CountsCommits shown moved 0 (v, (no_nib, state)) (λ n. either (n == old) new n) (Adds (step 0 old new ops) (v, (no_nib, state)))
adds_moves v ops old new state are cs log kept pre away =
    let P : List Cell → Type 0 =
    λ c. (0 < length c) × ((cell c 0).1 ≡ true) ×
    Goes CountsCommits shown moved 0 (v, (no_nib, state)) (λ n. either (n == old) new n) (Adds (step 0 old new ops) (v, (no_nib, state))) c log in
    subst P (sym kept.words) (omega arith, refl, adds_goes log v ops old new state are kept.begun pre (commits_in (operations_of log) == old) refl)

-- where the number found was the one expected, the operations were added
pub added : (found old : ℕ) (v w : List (List Op)) (ops : List Op) → found ≡ old → OnTrue (found == old) (operations_of w ≡ operations_of v ++ ops) → operations_of w ≡ operations_of v ++ ops
added found old v w ops same told = subst (λ b. OnTrue b (operations_of w ≡ operations_of v ++ ops)) (eq-eqb found old same) told
