-- Which entries rise once they are sorted by row id: those of distinct rows.
use Rattle.std.proofs.Common.{◌≡◌, ◌∙◌, sym, ap, refl, ℕ, ◌+◌, ◌<◌, length, get_or, arith, is_lt, is_eq, Ordering, Less, Equal, Greater, IsPermutation, IsSortedByKey, true, false, List, [], ◌∷◌}
use Rattle.std.proofs.lemmas.Bool.{and_parts}
use Rattle.std.proofs.lemmas.List.{get_or-map}
use Rattle.std.proofs.lemmas.List.Sorted.{IsPermutation-map, IsPermutation-sym}
use Rattle.std.proofs.lemmas.Map.Entries.{length-keys_of}
use Rattle.std.proofs.lemmas.Map.Keys.{sorted_from_all_adjacent, apart_from_distinct, IsDistinct-IsPermutation}
use Rattle.std.specs.Cmp.{eq_by_cmp_equiv}
use Rattle.std.specs.List.{IsDistinct, AllByRecursion}
use Rattle.std.specs.Map.{keys_of}
use Rattle.std.specs.Ordering.{ordering_reverse}
use Rattle.std.specs.FinMap.{is_sorted}
use Rattle.std.specs.FinMap.Entries.{below_all}
use Rattle.schema.specs.declared.RowId.{RowId}
use Rattle.schema.specs.RowId.{row_cmp, same_row, row_total}
use Rattle.store_trait.specs.Batch.{Entry, IsRising}
use Rattle.store_trait.specs.Laws.{SortedRowsRise, RisingRowsDiffer}
use Rattle.store_trait.proofs.Batches.{less_apart}
use Rattle.store_trait.proofs.Rising.{sorted_from_keys}

distinct_arranged : (es fs : List Entry) → IsPermutation es fs → IsDistinct same_row (keys_of es) → IsDistinct same_row (keys_of fs)
distinct_arranged es fs moves distinct =
    IsDistinct-IsPermutation same_row (eq_by_cmp_equiv row_total).symm (keys_of es) (keys_of fs) (IsPermutation-map (λ (e : Entry). e.0) es fs moves) distinct

-- what is not after and not the same is before
less_from : (o : Ordering) → is_lt (ordering_reverse o) ≡ false → is_eq o ≡ false → o ≡ Less
less_from Less g h = refl
less_from Equal g h = cc
less_from Greater g h = cc

-- two neighbours of distinct rows that a sort put in order
neighbours : (es : List Entry) (d : Entry) → IsDistinct same_row (keys_of es) → IsSortedByKey (λ (e : Entry). e.0) row_cmp es → (k : ℕ) → k + 1 < length (keys_of es) →
    row_cmp (get_or (keys_of es) k d.0) (get_or (keys_of es) (k + 1) d.0) ≡ Less
neighbours es d distinct order k within =
    let lengths = length-keys_of es in
    let this : get_or (keys_of es) k d.0 ≡ (get_or es k d).0 = get_or-map (λ (e : Entry). e.0) es k d d.0 (omega arith) in
    let next : get_or (keys_of es) (k + 1) d.0 ≡ (get_or es (k + 1) d).0 = get_or-map (λ (e : Entry). e.0) es (k + 1) d d.0 (omega arith) in
    let a = get_or (keys_of es) k d.0 in
    let b = get_or (keys_of es) (k + 1) d.0 in
    let not_after : is_lt (row_cmp b a) ≡ false = rw (this, next) (order k d (omega arith) (omega arith)) in
    let apart : same_row a b ≡ false = apart_from_distinct same_row (keys_of es) k (k + 1) d.0 distinct (omega arith) within in
    less_from (row_cmp a b) (ap is_lt (sym (row_total.antisymm b a)) ∙ not_after) apart

rising_sorted : (es : List Entry) → IsDistinct same_row (keys_of es) → IsSortedByKey (λ (e : Entry). e.0) row_cmp es → IsRising es
rising_sorted [] distinct order = refl
rising_sorted (e ∷ es) distinct order =
    sorted_from_keys (e ∷ es) (sorted_from_all_adjacent row_total (keys_of (e ∷ es)) e.0 (neighbours (e ∷ es) e distinct order))

pub sorted_rows_rise : SortedRowsRise
sorted_rows_rise es sorted distinct moves order = rising_sorted sorted (distinct_arranged es sorted moves distinct) order

apart_from_below : (x : RowId) (es : List Entry) → below_all row_cmp x es ≡ true → AllByRecursion (λ y. same_row x y ≡ false) (keys_of es)
apart_from_below x [] h = tt
apart_from_below x (e ∷ es) h =
    let parts = and_parts (is_lt (row_cmp x e.0)) (below_all row_cmp x es) h in
    (less_apart (row_cmp x e.0) parts.0, apart_from_below x es parts.1)

distinct_from_rising : (es : List Entry) → IsRising es → IsDistinct same_row (keys_of es)
unfolding IsDistinct
distinct_from_rising [] h = tt
distinct_from_rising (e ∷ es) h =
    let parts = and_parts (below_all row_cmp e.0 es) (is_sorted row_cmp es) h in
    (apart_from_below e.0 es parts.0, distinct_from_rising es parts.1)

pub rising_rows_differ : RisingRowsDiffer
rising_rows_differ es arranged moves rising = distinct_arranged arranged es (IsPermutation-sym es arranged moves) (distinct_from_rising arranged rising)
