-- Lists of rows in the order of row ids: by neighbors, and with one more row.
use Rattle.std.proofs.Common.{◌≡◌, ◌∙◌, sym, ap, refl, ℕ, zero, suc, ◌<◌, Bool, true, false, ◌↔◌, IsTrue, List, [], ◌∷◌, ◌++◌, length, get_or, Option, Some, is_some, IsSome, ℤ, cond, is_lt, is_eq}
use Rattle.std.proofs.Common.{Less, true≢false, arith, add-one}
use Rattle.std.specs.List.{AllByRecursion, IsAllAdjacentAnswer}
use Rattle.std.specs.List.Sorted.{IsStrictlySortedBy}
use Rattle.std.specs.Map.{keys_of}
use Rattle.std.specs.Cmp.{tied_itself}
use Rattle.std.specs.FinMap.{is_sorted, find}
use Rattle.std.specs.FinMap.Entries.{below_all}
use Rattle.std.proofs.lemmas.Bool.{and_parts, and_from, cond-true}
use Rattle.std.proofs.lemmas.Map.Keys.{sorted_head, sorted_tail}
use Rattle.schema.specs.declared.RowId.{RowId}
use Rattle.schema.specs.RowId.{row_cmp, row_total}
use Rattle.schema.proofs.Telling.{is_less}
use Rattle.store_trait.specs.Batch.{Entry, IsRising}

-- ---- by neighbors

below_lower : (x y : RowId) (es : List Entry) → row_cmp x y ≡ Less → below_all row_cmp y es ≡ true → below_all row_cmp x es ≡ true
below_lower x y [] less h = refl
below_lower x y (e ∷ es) less h =
    let parts = and_parts (is_lt (row_cmp y e.0)) (below_all row_cmp y es) h in
    and_from _ _ (ap is_lt (row_total.trans x y e.0 less (is_less _ parts.0))) (below_lower x y es less parts.1)

abbrev NeighborsRise : List Entry → Type 0
NeighborsRise es = (k : ℕ) (d : Entry) → suc k < length es → is_lt (row_cmp (get_or es k d).0 (get_or es (suc k) d).0) ≡ true

rising_from_neighbors : (es : List Entry) → NeighborsRise es → IsRising es
rising_from_neighbors [] h = refl
rising_from_neighbors (e ∷ []) h = refl
rising_from_neighbors (e ∷ f ∷ es) h =
    let rest = rising_from_neighbors (f ∷ es) (λ k d lt. h (suc k) d (omega arith)) in
    let parts = and_parts (below_all row_cmp f.0 es) (is_sorted row_cmp es) rest in
    let first : is_lt (row_cmp e.0 f.0) ≡ true = h 0 e (omega arith) in
    and_from _ _ (and_from _ _ first (below_lower e.0 f.0 es (is_less _ first) parts.0)) rest

neighbors_from_rising : (es : List Entry) → IsRising es → NeighborsRise es
neighbors_from_rising [] h k d lt = absurd (omega arith)
neighbors_from_rising (e ∷ []) h k d lt = absurd (omega arith)
neighbors_from_rising (e ∷ f ∷ es) h zero d lt =
    (and_parts (is_lt (row_cmp e.0 f.0)) (below_all row_cmp e.0 es) (and_parts _ (is_sorted row_cmp (f ∷ es)) h).0).0
neighbors_from_rising (e ∷ f ∷ es) h (suc k) d lt = neighbors_from_rising (f ∷ es) (and_parts _ (is_sorted row_cmp (f ∷ es)) h).1 k d (omega arith)

-- what a test of all neighbors says
pub rising_answer : (es : List Entry) (r : Bool) → IsAllAdjacentAnswer (λ x y b. b ≡ is_lt (row_cmp x.0 y.0)) es r → IsTrue r ↔ IsRising es
rising_answer es true h = (λ _. rising_from_neighbors es (λ k d lt. rw (← add-one k) (sym (h k d (omega arith)))), λ _. refl)
rising_answer [] false h = absurd (omega (arith, h.1))
rising_answer (e ∷ es) false h =
    let apart : false ≡ is_lt (row_cmp (get_or (e ∷ es) h.0 e).0 (get_or (e ∷ es) (suc h.0) e).0) = rw (← add-one h.0) (h.2 e) in (
      λ no. absurd (true≢false (sym no)),
      λ rising. absurd (true≢false (sym (neighbors_from_rising (e ∷ es) rising h.0 e (omega (arith, h.1))) ∙ sym apart)),
    )

-- ---- as a map's keys are in order

below_all_from_keys : {X : Type 0} (x : RowId) (es : List (RowId × X)) → AllByRecursion (λ y. row_cmp x y ≡ Less) (keys_of es) → below_all row_cmp x es ≡ true
below_all_from_keys x [] h = refl
below_all_from_keys x (e ∷ es) h = and_from _ _ (ap is_lt h.0) (below_all_from_keys x es h.1)

pub sorted_from_keys : {X : Type 0} (es : List (RowId × X)) → IsStrictlySortedBy row_cmp (keys_of es) → is_sorted row_cmp es ≡ true
sorted_from_keys [] h = refl
sorted_from_keys (e ∷ es) h = and_from _ _ (below_all_from_keys e.0 es (sorted_head row_cmp e.0 (keys_of es) h)) (sorted_from_keys es (sorted_tail row_cmp e.0 (keys_of es) h))

-- ---- one more row behind all

below_all_push : (x : RowId) (es : List Entry) (id : RowId) (columns : Option (List ℤ)) → below_all row_cmp x es ≡ true → row_cmp x id ≡ Less → below_all row_cmp x (es ++ (id, columns) ∷ []) ≡ true
below_all_push x [] id columns h less = and_from _ _ (ap is_lt less) refl
below_all_push x (e ∷ es) id columns h less =
    let parts = and_parts (is_lt (row_cmp x e.0)) (below_all row_cmp x es) h in
    and_from _ _ parts.0 (below_all_push x es id columns parts.1 less)

-- a row that is found is before the one behind all
pub rising_push : (es : List Entry) (id : RowId) (columns : Option (List ℤ)) → IsRising es → ((q : RowId) → IsSome (find row_cmp q es) → row_cmp q id ≡ Less) → IsRising (es ++ (id, columns) ∷ [])
rising_push [] id columns h before = refl
rising_push (e ∷ es) id columns h before =
    let parts = and_parts (below_all row_cmp e.0 es) (is_sorted row_cmp es) h in
    let first : row_cmp e.0 id ≡ Less = before e.0 (ap is_some (cond-true _ (Some e.1) (find row_cmp e.0 es) (ap is_eq (tied_itself row_total e.0)))) in
    and_from _ _ (below_all_push e.0 es id columns parts.0 first) (rising_push es id columns parts.1 (λ q found. before q (found_behind q found)))
  where
    found_behind : (q : RowId) → IsSome (find row_cmp q es) → IsSome (find row_cmp q (e ∷ es))
    found_behind q found = elim (is_eq (row_cmp q e.0)) as (λ b. is_some (cond b (Some e.1) (find row_cmp q es)) ≡ true) [ true ↦ refl | false ↦ found ]
