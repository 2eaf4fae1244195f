-- What a search by halves finds among the holders of marks that rise.
use Rattle.std.proofs.Common.{◌≡◌, ◌∙◌, sym, ap, refl, ℕ, zero, suc, ◌<◌, ◌≤◌, Bool, true, false, cond, List, [], ◌∷◌, length, get_or, Option, Some, None, unwrap_or, ℤ, Ok, Err, Ordering, Less, Equal}
use Rattle.std.proofs.Common.{Greater, is_lt, is_eq, arith, add-one, inl, inr}
use Rattle.std.specs.Ordering.{ordering_index, ordering_reverse}
use Rattle.std.specs.List.Sorted.{IsBinarySearchResult, IsNonDecreasingBy, IsSortedBy}
use Rattle.std.specs.FinMap.{find, is_sorted}
use Rattle.std.specs.FinMap.Entries.{below_all}
use Rattle.std.specs.Cmp.{tied_itself}
use Rattle.std.proofs.lemmas.Bool.{and_parts, cases_lt}
use Rattle.std.proofs.lemmas.List.Sorted.{searchable_from_sorted}
use Rattle.schema.specs.declared.RowId.{RowId}
use Rattle.schema.specs.RowId.{row_cmp, row_total, exact_row, same_row}
use Rattle.schema.specs.Rows.{Mark}
use Rattle.schema.proofs.RowMaps.{not_back, row_is, same_row_itself}
use Rattle.schema.proofs.Telling.{is_less}
use Rattle.executor.specs.Held.{Holder, AreHolders, held}

below_at : (q : RowId) (holders : List Holder) (at : ℕ) (d : Holder) → below_all row_cmp q holders ≡ true → at < length holders → row_cmp q (get_or holders at d).0 ≡ Less
below_at q [] at d below within = absurd (omega arith)
below_at q (e ∷ holders) zero d below within = is_less (row_cmp q e.0) (and_parts (is_lt (row_cmp q e.0)) (below_all row_cmp q holders) below).0
below_at q (e ∷ holders) (suc at) d below within = below_at q holders at d (and_parts (is_lt (row_cmp q e.0)) (below_all row_cmp q holders) below).1 (omega arith)

neighbors_rise : (holders : List Holder) → AreHolders holders → (k : ℕ) (d : Holder) → suc k < length holders → row_cmp (get_or holders k d).0 (get_or holders (suc k) d).0 ≡ Less
neighbors_rise [] are k d within = absurd (omega arith)
neighbors_rise (e ∷ holders) are zero d within = below_at e.0 holders 0 d (and_parts (below_all row_cmp e.0 holders) (is_sorted row_cmp holders) are).0 (omega arith)
neighbors_rise (e ∷ holders) are (suc k) d within = neighbors_rise holders (and_parts (below_all row_cmp e.0 holders) (is_sorted row_cmp holders) are).1 k d (omega arith)

comparisons_rise : (holders : List Holder) (mark : Mark) → AreHolders holders → IsNonDecreasingBy (λ (y : Holder). ordering_index (row_cmp y.0 mark)) holders
comparisons_rise holders mark are = searchable_from_sorted row_total (λ (y : Holder). y.0) holders mark sorted
  where
    sorted : IsSortedBy (λ (x y : Holder). is_lt (row_cmp x.0 y.0)) holders
    sorted k d from within =
        rw (add-one k) (not_back (get_or holders k d).0 (get_or holders (suc k) d).0 (neighbors_rise holders are k d (omega arith)))

-- the entry of a mark is the one that is found
find_at : (holders : List Holder) (mark : Mark) (at : ℕ) (d : Holder) → AreHolders holders → at < length holders → (get_or holders at d).0 ≡ mark →
    find row_cmp mark holders ≡ Some (get_or holders at d).1
find_at [] mark at d are within here = absurd (omega arith)
find_at (e ∷ holders) mark zero d are within here = ap (λ b. cond b (Some e.1) (find row_cmp mark holders)) (ap (same_row mark) here ∙ same_row_itself mark)
find_at (e ∷ holders) mark (suc at) d are within here =
    let parts = and_parts (below_all row_cmp e.0 holders) (is_sorted row_cmp holders) are in
    let before : row_cmp e.0 mark ≡ Less = ap (row_cmp e.0) (sym here) ∙ below_at e.0 holders at d parts.0 (omega arith) in
    ap (λ b. cond b (Some e.1) (find row_cmp mark holders)) (ap is_eq (row_total.antisymm mark e.0 ∙ ap ordering_reverse before))
    ∙ find_at holders mark at d parts.1 (omega arith) here

-- a mark that no entry is of is not found
find_absent : (holders : List Holder) (mark : Mark) → ((k : ℕ) (d : Holder) → k < length holders → (get_or holders k d).0 ≡ mark → ⊥) → find row_cmp mark holders ≡ None
find_absent [] mark none = refl
find_absent (e ∷ holders) mark none = by (same_row mark e.0) refl (find_absent holders mark (λ k d lt. none (suc k) d (omega arith)))
  where
    by : (b : Bool) → same_row mark e.0 ≡ b → find row_cmp mark holders ≡ None → cond b (Some e.1) (find row_cmp mark holders) ≡ None
    by true is rest = absurd (none 0 e (omega arith) (sym (row_is mark e.0 is)))
    by false is rest = rest

pub held_at : (holders : List Holder) (mark : Mark) (at : ℕ) (d : Holder) → AreHolders holders → at < length holders → IsBinarySearchResult (λ (y : Holder). row_cmp y.0 mark) holders (Ok at) →
    (get_or holders at d).1 ≡ held holders mark
held_at holders mark at d are within found =
    sym (ap (λ (o : Option (Option ℤ)). unwrap_or o None) (find_at holders mark at d are within (exact_row (get_or holders at d).0 mark (found d))))

pub not_held : (holders : List Holder) (mark : Mark) (at : ℕ) → AreHolders holders → at ≤ length holders → IsBinarySearchResult (λ (y : Holder). row_cmp y.0 mark) holders (Err at) →
    None ≡ held holders mark
not_held holders mark at are within parted =
    let parts = parted (comparisons_rise holders mark are) in
    sym (ap (λ (o : Option (Option ℤ)). unwrap_or o None) (find_absent holders mark (λ k d lt here.
    let tied : row_cmp (get_or holders k d).0 mark ≡ Equal = ap (λ (q : RowId). row_cmp q mark) here ∙ tied_itself row_total mark in
    elim (cases_lt k at) [
      | inl before ↦ less_apart (row_cmp (get_or holders k d).0 mark) tied (parts.0 k d (omega arith) before)
      | inr behind ↦ greater_apart (row_cmp (get_or holders k d).0 mark) tied (parts.1 k d behind lt)
    ])))
  where
    less_apart : (o : Ordering) → o ≡ Equal → o ≡ Less → ⊥
    less_apart o e l = cc

    greater_apart : (o : Ordering) → o ≡ Equal → o ≡ Greater → ⊥
    greater_apart o e g = cc
