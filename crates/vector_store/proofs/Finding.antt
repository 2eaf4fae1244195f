-- What a search in rows in order finds.
use Rattle.std.proofs.Common.{◌≡◌, ◌∙◌, sym, ap, refl, subst, ℕ, zero, suc, ◌+◌, ◌<◌, ◌≤◌, List, [], ◌∷◌, ◌++◌, length, take, drop, get_or, Some, None, Result, Ok, Err, is_lt, is_eq, false, true}
use Rattle.std.proofs.Common.{Ordering, Less, Equal, Greater, arith, add-one, true≢false, length-append, ◌⊎◌, inl, inr}
use Rattle.std.specs.Ordering.{ordering_index, ordering_reverse, is_ge}
use Rattle.std.specs.List.Sorted.{IsSearchInRange, IsBinarySearchResult, IsNonDecreasingBy, IsSortedBy}
use Rattle.std.specs.FinMap.{get, find, len, from_sorted, len-entries, entries-from_sorted, get-from_sorted, same_map}
use Rattle.std.specs.Bool.{passes}
use Rattle.std.specs.Cmp.{tied_itself}
use Rattle.std.proofs.lemmas.Bool.{cond-true}
use Rattle.std.specs.List.{between}
use Rattle.std.proofs.lemmas.List.{take-append-drop, take-append-le, drop-append-le, drop_more, take_more, length-take-le, get_or-append-add, get_or_append_left}
use Rattle.std.proofs.lemmas.List.Edits.{split_between}
use Rattle.std.proofs.lemmas.List.Sorted.{searchable_from_sorted}
use Rattle.std.proofs.Math.Seq.{take-append-add, drop-append-add}
use Rattle.schema.specs.declared.RowId.{RowId}
use Rattle.schema.specs.RowId.{row_cmp, row_total, exact_row, same_row}
use Rattle.schema.proofs.RowMaps.{not_back}
use Rattle.vector_store.specs.Contents.{KeyedRow, contents_of, AreBefore, AreBehind, AreInOrder}
use Rattle.vector_store.specs.Places.{IsWindowOf, IsPlaceOf}
use Rattle.vector_store.proofs.Order.{order_sorted, order_parts, order_before, order_behind, before_join, behind_join, behind_lesser, before_greater, find_past, find_behind, get_rows}

-- how many rows there are
pub len-contents : (rows : List KeyedRow) → AreInOrder rows → len (contents_of rows) ≡ length rows
len-contents rows order =
    let sorted = passes _ (order_sorted rows order) in
    let same = same_map row_total exact_row (contents_of rows) (from_sorted rows) (λ q. get_rows rows q ∙ sym (get-from_sorted row_cmp rows q sorted)) in
    ap len same ∙ len-entries (from_sorted {R = row_cmp} rows) ∙ ap length (entries-from_sorted row_cmp rows sorted)

-- ---- around a place

-- a list around one of its places
pub around_place : {X : Type 0} (xs : List X) (i : ℕ) (d : X) → i < length xs → xs ≡ take i xs ++ get_or xs i d ∷ drop (i + 1) xs
around_place xs i d within = sym (take-append-drop i xs) ∙ ap (λ l. take i xs ++ l) (drop_more xs i d within)

module _ (rows : List KeyedRow) (order : AreInOrder rows) (at : ℕ) (d : KeyedRow) (within : at < length rows) where
  split_order : AreInOrder (take at rows ++ get_or rows at d ∷ drop (at + 1) rows)
  split_order = subst (λ (l : List KeyedRow). AreInOrder l) (around_place rows at d within) order

  pub before_place : AreBefore (take at rows) (get_or rows at d).0
  before_place = order_before (take at rows) (drop (at + 1) rows) (get_or rows at d) split_order

  pub behind_place : AreBehind (get_or rows at d).0 (drop (at + 1) rows)
  behind_place = order_behind (take at rows) (drop (at + 1) rows) (get_or rows at d) split_order

-- ---- a search by halves

neighbors_rise : (rows : List KeyedRow) → AreInOrder rows → (k : ℕ) (d : KeyedRow) → suc k < length rows → row_cmp (get_or rows k d).0 (get_or rows (suc k) d).0 ≡ Less
neighbors_rise [] order k d within = absurd (omega arith)
neighbors_rise (a ∷ []) order k d within = absurd (omega arith)
neighbors_rise (a ∷ b ∷ rows) order zero d within = order.0.0
neighbors_rise (a ∷ b ∷ rows) order (suc k) d within = neighbors_rise (b ∷ rows) order.1 k d (omega arith)

sorted_by : (rows : List KeyedRow) → AreInOrder rows → IsSortedBy (λ (x y : KeyedRow). is_lt (row_cmp x.0 y.0)) rows
sorted_by rows order k d from within =
    rw (add-one k) (not_back (get_or rows k d).0 (get_or rows (suc k) d).0 (neighbors_rise rows order k d (omega arith)))

comparisons_rise : (rows : List KeyedRow) (id : RowId) → AreInOrder rows → IsNonDecreasingBy (λ (y : KeyedRow). ordering_index (row_cmp y.0 id)) rows
comparisons_rise rows id order = searchable_from_sorted row_total (λ (y : KeyedRow). y.0) rows id (sorted_by rows order)

before_all : (rows : List KeyedRow) (id : RowId) (at : ℕ) → at ≤ length rows → ((k : ℕ) (d : KeyedRow) → k < at → row_cmp (get_or rows k d).0 id ≡ Less) → AreBefore (take at rows) id
before_all rows id zero within h = tt
before_all [] id (suc at) within h = tt
before_all (row ∷ rows) id (suc at) within h = (h 0 row (omega arith), before_all rows id at (omega arith) (λ k d lt. h (suc k) d (omega arith)))

behind_all : (rows : List KeyedRow) (id : RowId) (at : ℕ) → ((k : ℕ) (d : KeyedRow) → at ≤ k → k < length rows → row_cmp (get_or rows k d).0 id ≡ Greater) → AreBehind id (drop at rows)
behind_all [] id zero h = tt
behind_all [] id (suc at) h = tt
behind_all (row ∷ rows) id zero h =
    (row_total.antisymm id row.0 ∙ ap ordering_reverse (h 0 row (omega arith) (omega arith)), behind_all rows id zero (λ k d le lt. h (suc k) d (omega arith) (omega arith)))
behind_all (row ∷ rows) id (suc at) h = behind_all rows id at (λ k d le lt. h (suc k) d (omega arith) (omega arith))

pub searched : (rows : List KeyedRow) (id : RowId) → AreInOrder rows → (r : Result ℕ ℕ) → IsSearchInRange r (length rows) → IsBinarySearchResult (λ (y : KeyedRow). row_cmp y.0 id) rows r →
    IsPlaceOf rows id r
searched rows id order (Ok at) within found =
    let d : KeyedRow = (id, []) in
    let here : (e : KeyedRow) → (get_or rows at e).0 ≡ id = λ e. exact_row (get_or rows at e).0 id (found e) in (
      record {
        rises = omega arith;
        within = omega arith;
        before = subst (λ (q : RowId). AreBefore (take at rows) q) (here d) (before_place rows order at d within);
        behind = subst (λ (q : RowId). AreBehind q (drop (at + 1) rows)) (here d) (behind_place rows order at d within);
      },
      here,
    )
searched rows id order (Err at) within parted =
    let parts = parted (comparisons_rise rows id order) in
    record {
      rises = omega arith;
      within = within;
      before = before_all rows id at within (λ k d lt. parts.0 k d (omega arith) lt);
      behind = behind_all rows id at (λ k d le lt. parts.1 k d le lt);
    }

-- ---- what is there

pub find_head : (id : RowId) (row : KeyedRow) (rows : List KeyedRow) → row.0 ≡ id → find row_cmp id (row ∷ rows) ≡ Some row.1
find_head id row rows e = cond-true _ _ _ (subst (λ (q : RowId). same_row id q ≡ true) (sym e) (ap is_eq (tied_itself row_total id)))

pub found_at : (rows : List KeyedRow) (id : RowId) (at : ℕ) (d : KeyedRow) → IsPlaceOf rows id (Ok at) → Some (get_or rows at d).1 ≡ get (contents_of rows) id
found_at rows id at d place =
    let w = place.0 in
    let split = around_place rows at d (omega (arith, w.within)) in
    sym (get_rows rows id ∙ ap (find row_cmp id) split ∙ find_past id (take at rows) (get_or rows at d ∷ drop (at + 1) rows) w.before
    ∙ find_head id (get_or rows at d) (drop (at + 1) rows) (place.1 d))

pub absent_at : (rows : List KeyedRow) (id : RowId) (at : ℕ) → IsPlaceOf rows id (Err at) → None ≡ get (contents_of rows) id
absent_at rows id at place =
    sym (get_rows rows id ∙ ap (find row_cmp id) (sym (take-append-drop at rows)) ∙ find_past id (take at rows) (drop at rows) place.before ∙ find_behind id (drop at rows) place.behind)

-- what is before the row is before the rows from its place on
pub before_found : (rows : List KeyedRow) (id : RowId) (at : ℕ) → IsPlaceOf rows id (Ok at) → (q : RowId) → row_cmp q id ≡ Less → AreBehind q (drop at rows)
before_found rows id at place q less =
    let d : KeyedRow = (id, []) in
    let here : row_cmp q (get_or rows at d).0 ≡ Less = ap (row_cmp q) (place.1 d) ∙ less in
    rw (drop_more rows at d (omega (arith, place.0.within))) (here, behind_lesser q id (drop (at + 1) rows) less place.0.behind)

pub before_absent : (rows : List KeyedRow) (id : RowId) (at : ℕ) → IsPlaceOf rows id (Err at) → (q : RowId) → row_cmp q id ≡ Less → AreBehind q (drop at rows)
before_absent rows id at place q less = behind_lesser q id (drop at rows) less place.behind

-- ---- the window near the end

ge_parts : (r : Ordering) → is_ge r ≡ true → (ordering_reverse r ≡ Less) ⊎ (r ≡ Equal)
ge_parts Less h = absurd (true≢false (sym h))
ge_parts Equal h = inr refl
ge_parts Greater h = inl refl

not_ge : (r : Ordering) → is_ge r ≡ false → r ≡ Less
not_ge Less h = refl
not_ge Equal h = absurd (true≢false h)
not_ge Greater h = absurd (true≢false h)

module _ (rows : List KeyedRow) (order : AreInOrder rows) (id : RowId) (at : ℕ) (d : KeyedRow) (within : at < length rows) where
  -- a row that is not before the id
  pub behind_from : is_ge (row_cmp (get_or rows at d).0 id) ≡ true → AreBehind id (drop (at + 1) rows)
  behind_from h =
      let row = get_or rows at d in
      let behind = behind_place rows order at d within in
      elim (ge_parts (row_cmp row.0 id) h) [
        | inl greater ↦ behind_lesser id row.0 (drop (at + 1) rows) (row_total.antisymm id row.0 ∙ greater) behind
        | inr same ↦ subst (λ (q : RowId). AreBehind q (drop (at + 1) rows)) (exact_row row.0 id same) behind
      ]

  -- a row that is
  pub before_up_to : is_ge (row_cmp (get_or rows at d).0 id) ≡ false → AreBefore (take (at + 1) rows) id
  before_up_to h =
      let row = get_or rows at d in
      let less : row_cmp row.0 id ≡ Less = not_ge (row_cmp row.0 id) h in
      let before = before_place rows order at d within in
      rw (take_more rows at d within) (before_join id (take at rows) (row ∷ []) (before_greater row.0 id (take at rows) less before) (less, tt))

-- ---- a place in a window

shifted : (xs ys zs : List KeyedRow) (id : RowId) (a b : ℕ) → AreBefore xs id → AreBehind id zs → IsWindowOf ys id a b → IsWindowOf (xs ++ (ys ++ zs)) id (length xs + a) (length xs + b)
shifted xs ys zs id a b before behind w = record {
  rises = omega (arith, w.rises);
  within = omega (arith, w.within, length-append xs (ys ++ zs), length-append ys zs);
  before = rw (take-append-add xs (ys ++ zs) a, take-append-le a ys zs (omega (arith, w.within, w.rises))) (before_join id xs (take a ys) before w.before);
  behind = rw (drop-append-add xs (ys ++ zs) b, drop-append-le b ys zs w.within) (behind_join id (drop b ys) zs w.behind behind);
}

same_window : (xs ys : List KeyedRow) (id : RowId) (a b c d : ℕ) → xs ≡ ys → a ≡ c → b ≡ d → IsWindowOf xs id a b → IsWindowOf ys id c d
same_window xs ys id a b c d p q r w =
    subst (λ (l : List KeyedRow). IsWindowOf l id c d) p (subst (λ k. IsWindowOf xs id k d) q (subst (λ k. IsWindowOf xs id a k) r w))

module _ (rows : List KeyedRow) (id : RowId) (low high : ℕ) (w : IsWindowOf rows id low high) where
  low_length : length (take low rows) ≡ low
  low_length = length-take-le low rows (omega (arith, w.rises, w.within))

  pub inner_order : AreInOrder rows → AreInOrder (between low high rows)
  inner_order order =
      (order_parts (between low high rows) (drop high rows) (order_parts (take low rows) (between low high rows ++ drop high rows)
      (subst (λ (l : List KeyedRow). AreInOrder l) (split_between rows low high w.rises) order)).1).0

  moved : (a b : ℕ) → IsWindowOf (between low high rows) id a b → IsWindowOf rows id (low + a) (low + b)
  moved a b inner =
      same_window (take low rows ++ (between low high rows ++ drop high rows)) rows id (length (take low rows) + a) (length (take low rows) + b) (low + a) (low + b)
      (sym (split_between rows low high w.rises)) (ap (λ n. n + a) low_length) (ap (λ n. n + b) low_length)
      (shifted (take low rows) (between low high rows) (drop high rows) id a b w.before w.behind inner)

  pub moved_found : (at : ℕ) → IsPlaceOf (between low high rows) id (Ok at) → IsPlaceOf rows id (Ok (low + at))
  moved_found at place = (
    subst (λ k. IsWindowOf rows id (low + at) k) (omega arith) (moved at (at + 1) place.0),
    λ d. ap (λ (row : KeyedRow). row.0) (here d) ∙ place.1 d,
  )
    where
      here : (d : KeyedRow) → get_or rows (low + at) d ≡ get_or (between low high rows) at d
      here d =
          let xs = take low rows in let ys = between low high rows in let zs = drop high rows in
          ap (λ (l : List KeyedRow). get_or l (low + at) d) (split_between rows low high w.rises)
          ∙ ap (λ n. get_or (xs ++ (ys ++ zs)) (n + at) d) (sym low_length)
          ∙ get_or-append-add xs (ys ++ zs) at d
          ∙ get_or_append_left ys zs d at (omega (arith, place.0.within))

  pub moved_absent : (at : ℕ) → IsPlaceOf (between low high rows) id (Err at) → IsPlaceOf rows id (Err (low + at))
  moved_absent at place = moved at at place
