-- Entries of a map of rows that pass a test.
use Rattle.std.proofs.Common.{◌≡◌, ◌∙◌, sym, ap, subst, Bool, true, false, true≢false, cond, is_lt, List, [], ◌∷◌, Option, Some, None, inl, inr, refl}
use Rattle.std.specs.Prelude.{◌||◌, find}
use Rattle.std.specs.List.{list_any}
use Rattle.std.specs.FinMap.{FinMap, get, find as find_row, entries, entries_sorted, is_sorted, get-entries}
use Rattle.std.specs.FinMap.Entries.{below_all}
use Rattle.std.proofs.lemmas.Bool.{cases_Bool, or_left, or_right, and_parts}
use Rattle.std.proofs.lemmas.Option.{same_Some}
use Rattle.schema.specs.declared.RowId.{RowId}
use Rattle.schema.specs.RowId.{row_cmp, same_row}
use Rattle.schema.proofs.RowMaps.{row_is, same_row_itself}
use Rattle.schema.proofs.Telling.{true_from_T, less_apart}

-- ---- lists

none_is_some : {A : Type 0} (x : A) (o : Option A) → o ≡ None → o ≡ Some x → ⊥
none_is_some x o none some = cc

-- no two entries are of one row
abbrev pub AreOnce : {X : Type 0} → List (RowId × X) → Type 0
AreOnce [] = Unit {0}
AreOnce (e ∷ es) = (find_row row_cmp e.0 es ≡ None) × AreOnce es

module _ {X : Type 0} where
  -- a row below those of the entries has none
  none_below : (id : RowId) (es : List (RowId × X)) → below_all row_cmp id es ≡ true → find_row row_cmp id es ≡ None
  none_below id [] h = refl
  none_below id (e ∷ es) h =
      let parts = and_parts (is_lt (row_cmp id e.0)) (below_all row_cmp id es) h in
      ap (λ b. cond b (Some e.1) (find_row row_cmp id es)) (less_apart (row_cmp id e.0) parts.0) ∙ none_below id es parts.1

  pub once_from_sorted : (es : List (RowId × X)) → is_sorted row_cmp es ≡ true → AreOnce es
  once_from_sorted [] h = tt
  once_from_sorted (e ∷ es) h =
      let parts = and_parts (below_all row_cmp e.0 es) (is_sorted row_cmp es) h in
      (none_below e.0 es parts.0, once_from_sorted es parts.1)

  -- the first entry that passes is the one of its row
  found_row : (test : RowId × X → Bool) (es : List (RowId × X)) (found : RowId × X) → AreOnce es → find test es ≡ Some found →
      (find_row row_cmp found.0 es ≡ Some found.1) × (test found ≡ true)
  found_row test [] found once is = cc
  found_row test (e ∷ es) found once is =
      by (found_row test es found once.1) once.0 (test e) refl is
    where
      behind : (b : Bool) → same_row found.0 e.0 ≡ b → find_row row_cmp e.0 es ≡ None → find_row row_cmp found.0 es ≡ Some found.1 → cond b (Some e.1) (find_row row_cmp found.0 es) ≡ Some found.1
      behind true same none there = absurd (none_is_some found.1 (find_row row_cmp found.0 es) (ap (λ id. find_row row_cmp id es) (row_is found.0 e.0 same) ∙ none) there)
      behind false same none there = there

      by : (find test es ≡ Some found → (find_row row_cmp found.0 es ≡ Some found.1) × (test found ≡ true)) → find_row row_cmp e.0 es ≡ None → (b : Bool) → test e ≡ b →
          cond b (Some e) (find test es) ≡ Some found → (find_row row_cmp found.0 (e ∷ es) ≡ Some found.1) × (test found ≡ true)
      by rest none true passes first =
          let same : e ≡ found = same_Some e found first in
          subst (λ (d : RowId × X). (find_row row_cmp d.0 (e ∷ es) ≡ Some d.1) × (test d ≡ true)) same
          (ap (λ b. cond b (Some e.1) (find_row row_cmp e.0 es)) (same_row_itself e.0), passes)
      by rest none false fails later = let r = rest later in (behind (same_row found.0 e.0) refl none r.0, r.1)

  find_any : (test : RowId × X → Bool) (es : List (RowId × X)) → list_any test es ≡ true → (found : RowId × X) × (find test es ≡ Some found)
  find_any test [] h = cc
  find_any test (e ∷ es) h = by (find_any test es) (test e) h
    where
      by : (list_any test es ≡ true → (found : RowId × X) × (find test es ≡ Some found)) → (b : Bool) → (b || list_any test es) ≡ true →
          (found : RowId × X) × (cond b (Some e) (find test es) ≡ Some found)
      by rest true passes = (e, refl)
      by rest false later = rest later

  none_any : (test : RowId × X → Bool) (es : List (RowId × X)) → find test es ≡ None → list_any test es ≡ false
  none_any test [] h = refl
  none_any test (e ∷ es) h = by (none_any test es) (test e) h
    where
      by : (find test es ≡ None → list_any test es ≡ false) → (b : Bool) → cond b (Some e) (find test es) ≡ None → (b || list_any test es) ≡ false
      by rest true first = cc
      by rest false later = rest later

  pub any_found : (test : RowId × X → Bool) (es : List (RowId × X)) (id : RowId) (x : X) → find_row row_cmp id es ≡ Some x → test (id, x) ≡ true → list_any test es ≡ true
  any_found test [] id x is h = cc
  any_found test (e ∷ es) id x is h = by (any_found test es id x) (same_row id e.0) refl is
    where
      by : (find_row row_cmp id es ≡ Some x → test (id, x) ≡ true → list_any test es ≡ true) → (b : Bool) → same_row id e.0 ≡ b → cond b (Some e.1) (find_row row_cmp id es) ≡ Some x →
          (test e || list_any test es) ≡ true
      by rest true same here = or_left _ _ ((λ i. test (sym (row_is id e.0 same) i, same_Some e.1 x here i)) ∙ h)
      by rest false same there = or_right (test e) _ (rest there h)

  -- one that passes is the one of its row
  pub found_any : (test : RowId × X → Bool) (es : List (RowId × X)) → AreOnce es → list_any test es ≡ true → (id : RowId) × (x : X) × (find_row row_cmp id es ≡ Some x) × (test (id, x) ≡ true)
  found_any test es once h =
      let first = find_any test es h in
      let is = found_row test es first.0 once first.1 in
      (first.0.0, first.0.1, is.0, is.1)

  -- ---- maps

  entries_once : (m : FinMap row_cmp X) → AreOnce (entries m)
  entries_once m = once_from_sorted (entries m) (true_from_T (is_sorted row_cmp (entries m)) (entries_sorted m))

  -- the first entry that passes a test is what the map has at its row
  pub found_entry : (test : RowId × X → Bool) (m : FinMap row_cmp X) (found : RowId × X) → find test (entries m) ≡ Some found → (get m found.0 ≡ Some found.1) × (test found ≡ true)
  found_entry test m found is =
      let row = found_row test (entries m) found (entries_once m) is in
      (get-entries m found.0 ∙ row.0, row.1)

  -- what the map has at a row is an entry
  pub entry_any : (test : RowId × X → Bool) (m : FinMap row_cmp X) (id : RowId) (x : X) → get m id ≡ Some x → test (id, x) ≡ true → list_any test (entries m) ≡ true
  entry_any test m id x is h = any_found test (entries m) id x (sym (get-entries m id) ∙ is) h

  -- and an entry that passes a test is what the map has at its row
  pub any_entry : (test : RowId × X → Bool) (m : FinMap row_cmp X) → list_any test (entries m) ≡ true → (id : RowId) × (x : X) × (get m id ≡ Some x) × (test (id, x) ≡ true)
  any_entry test m h =
      let f = found_any test (entries m) (entries_once m) h in
      (f.0, f.1, get-entries m f.0 ∙ f.2, f.3)

  -- where none is found, no row passes
  pub none_entry : (test : RowId × X → Bool) (m : FinMap row_cmp X) (id : RowId) (x : X) → find test (entries m) ≡ None → get m id ≡ Some x → test (id, x) ≡ false
  none_entry test m id x none is =
      elim (cases_Bool (test (id, x))) [
        | inl passes ↦ absurd (true≢false (sym (entry_any test m id x is passes) ∙ none_any test (entries m) none))
        | inr fails ↦ fails
      ]
