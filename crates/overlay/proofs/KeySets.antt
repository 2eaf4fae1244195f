-- Sets of keys that are compared by an order: searches, and the test of two of them.
use Rattle.std.proofs.Common.{◌≡◌, sym, ap, ◌∙◌, refl, ℕ, suc, ◌<◌, Bool, true, false, not, ◌&&◌, ◌||◌, List, [], ◌∷◌, length, get_or, Result, Ok, Err, is_ok, Ordering, Less, Equal, Greater, is_eq}
use Rattle.std.proofs.Common.{inl, inr, true≢false, IsPermutation, arith}
use Rattle.std.specs.List.{list_all, list_any}
use Rattle.std.specs.List.Sorted.{IsSorted, IsBinarySearchResult, IsSearchInRange}
use Rattle.std.specs.Ordering.{eq_by_cmp, ordering_reverse}
use Rattle.std.specs.Cmp.{IsTotalOrder}
use Rattle.std.proofs.lemmas.Bool.{or_cases, cases_lt}
use Rattle.std.proofs.lemmas.List.Folds.{list_any_at}
use Rattle.std.proofs.lemmas.List.Sorted.{searchable_from_sorted, list_any-IsPermutation}
use Rattle.schema.proofs.Telling.{both_or_none, is_equal}
use Rattle.overlay.specs.Keys.{has_key, same_keys}

module _ {K : Type 0} {R : K → K → Ordering} (o : IsTotalOrder R) where
  -- keys that tie do so both ways
  turned : (a b : K) → R a b ≡ Equal → R b a ≡ Equal
  turned a b tied = o.antisymm b a ∙ ap ordering_reverse tied

  -- a key that ties with none of the list
  absent : (keys : List K) (q : K) → ((k : ℕ) (d : K) → k < length keys → R (get_or keys k d) q ≡ Equal → ⊥) → has_key R keys q ≡ false
  absent [] q none = refl
  absent (key ∷ keys) q none =
      both_or_none (has_key R (key ∷ keys) q) false
      (λ is. elim (or_cases (eq_by_cmp R q key) (has_key R keys q) is) [
        | inl here ↦ absurd (none 0 key (omega arith) (turned q key (is_equal (R q key) here)))
        | inr there ↦ sym (absent keys q (λ k d lt. none (suc k) d (omega arith))) ∙ there
      ])
      (λ is. absurd (true≢false (sym is)))

  -- a search finds a key exactly where it is among the keys
  pub is_found : (keys : List K) (q : K) (r : Result ℕ ℕ) → IsSorted R keys → IsSearchInRange r (length keys) → IsBinarySearchResult (λ y. R y q) keys r → is_ok r ≡ has_key R keys q
  is_found keys q (Ok at) sorted within found =
      sym (list_any_at (eq_by_cmp R q) keys at q within (ap is_eq (turned (get_or keys at q) q (found q))))
  is_found keys q (Err at) sorted within parted =
      let parts = parted (searchable_from_sorted o (λ (y : K). y) keys q sorted) in
      sym (absent keys q (λ k d lt tied.
      elim (cases_lt k at) [
        | inl before ↦ less_apart (R (get_or keys k d) q) tied (parts.0 k d (omega arith) before)
        | inr behind ↦ greater_apart (R (get_or keys k d) q) tied (parts.1 k d behind lt)
      ]))
    where
      less_apart : (r : Ordering) → r ≡ Equal → r ≡ Less → ⊥
      less_apart r e l = cc

      greater_apart : (r : Ordering) → r ≡ Equal → r ≡ Greater → ⊥
      greater_apart r e g = cc

-- ---- keys in another order

all_by_none : {K : Type 0} (p : K → Bool) (keys : List K) → list_all p keys ≡ not (list_any (λ key. not (p key)) keys)
all_by_none p [] = refl
all_by_none p (key ∷ keys) = by (p key) (all_by_none p keys)
  where
    by : (b : Bool) → list_all p keys ≡ not (list_any (λ key. not (p key)) keys) → (b && list_all p keys) ≡ not (not b || list_any (λ key. not (p key)) keys)
    by true rest = rest
    by false rest = refl

module _ {K : Type 0} (R : K → K → Ordering) (stated keys moved : List K) (moves : IsPermutation keys moved) where
  -- the test looks at the keys alone, and not at their order
  pub same_for_moved : same_keys R stated moved ≡ same_keys R stated keys
  same_for_moved =
      let among : (q : K) → has_key R moved q ≡ has_key R keys q = λ q. sym (list_any-IsPermutation (eq_by_cmp R q) keys moved moves) in
      let all : list_all (has_key R stated) moved ≡ list_all (has_key R stated) keys =
      all_by_none (has_key R stated) moved
      ∙ ap not (sym (list_any-IsPermutation (λ q. not (has_key R stated q)) keys moved moves))
      ∙ sym (all_by_none (has_key R stated) keys) in
      λ i. list_all (λ q. among q i) stated && all i
