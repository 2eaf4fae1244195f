-- The first row of a table above a key, by a search in rows in order.
use Rattle.std.proofs.Common.{◌≡◌, ◌∙◌, sym, ap, refl, subst, ℕ, zero, suc, ◌+◌, ◌<◌, ◌≤◌, ℤ, true, false, List, [], ◌∷◌, length, take, drop, get_or, Option, Some, None, Less, true≢false, arith, inl}
use Rattle.std.proofs.Common.{inr}
use Rattle.std.specs.List.Sorted.{IsPartitionedBy}
use Rattle.std.specs.FinMap.{get, find}
use Rattle.std.proofs.lemmas.Bool.{cases_lt, cond-false, false_from_ne_true}
use Rattle.std.proofs.lemmas.Bool.Decides.{nat_tests}
use Rattle.std.proofs.lemmas.Int.{ints}
use Rattle.std.proofs.lemmas.List.{drop_more, drop_all}
use Rattle.schema.specs.declared.RowId.{RowId}
use Rattle.schema.specs.RowId.{row_cmp, same_row}
use Rattle.rows.proofs.Apply.{row_is}
use Rattle.store_trait.specs.Contents.{IsAbove, row_at, NoneAbove, IsLeastAbove}
use Rattle.store_trait.proofs.Walks.{lesser_row, lesser_table, lesser_key}
use Rattle.vector_store.specs.Contents.{KeyedRow, contents_of, AreBefore, AreBehind, AreInOrder}
use Rattle.vector_store.specs.Places.{is_passed, IsPassedUpTo}
use Rattle.vector_store.proofs.Order.{behind_lesser, find_behind, get_rows}
use Rattle.vector_store.proofs.Finding.{before_place, behind_place, find_head}

-- ---- which rows are passed

not_passed : (table : ℕ) (above : Option ℤ) (id : RowId) → is_passed table above id ≡ false → (table ≤ id.table) × (id.table ≡ table → IsAbove above id.key)
not_passed table None id h = (grind (arith, nat_tests), λ _. tt)
not_passed table (Some bound) id h = (grind (arith, nat_tests), λ e. grind (arith, nat_tests, ints))

above_not_passed : (table : ℕ) (above : Option ℤ) (key : ℤ) → IsAbove above key → is_passed table above (row_at table key) ≡ false
above_not_passed table None key h = grind (arith, nat_tests)
above_not_passed table (Some bound) key h = grind (arith, nat_tests, ints)

passed_lower : (table : ℕ) (above : Option ℤ) (a b : RowId) → row_cmp a b ≡ Less → is_passed table above b ≡ true → is_passed table above a ≡ true
passed_lower table None a b less h =
    elim (lesser_row a b less) [
      | inl lt ↦ grind (arith, nat_tests)
      | inr at ↦ grind (arith, nat_tests, at.0)
    ]
passed_lower table (Some bound) a b less h =
    elim (lesser_row a b less) [
      | inl lt ↦ grind (arith, nat_tests)
      | inr at ↦ grind (arith, nat_tests, ints, at.0, at.1)
    ]

-- rows in order are passed up to a place, and from there on not
before_at : (rows : List KeyedRow) (id : RowId) (n : ℕ) (i : ℕ) (d : KeyedRow) → AreBefore (take n rows) id → i < n → i < length rows → row_cmp (get_or rows i d).0 id ≡ Less
before_at [] id n i d h lt within = absurd (omega arith)
before_at (row ∷ rows) id zero i d h lt within = absurd (omega arith)
before_at (row ∷ rows) id (suc n) zero d h lt within = h.0
before_at (row ∷ rows) id (suc n) (suc i) d h lt within = before_at rows id n i d h.1 (omega arith) (omega arith)

pub are_parted : (rows : List KeyedRow) (table : ℕ) (above : Option ℤ) → AreInOrder rows → IsPartitionedBy (λ (row : KeyedRow). is_passed table above row.0) rows
are_parted rows table above order i j d le within h =
    elim (cases_lt i j) [
      | inl lt ↦ passed_lower table above (get_or rows i d).0 (get_or rows j d).0 (before_at rows (get_or rows j d).0 j i d (before_place rows order j d within) lt (omega arith)) h
      | inr ge ↦ let same : i ≡ j = omega arith in subst (λ k. is_passed table above (get_or rows k d).0 ≡ true) (sym same) h
    ]

-- ---- what is found

find_skips : (rows : List KeyedRow) (q : RowId) (from : ℕ) → ((k : ℕ) (d : KeyedRow) → k < from → k < length rows → same_row q (get_or rows k d).0 ≡ false) →
    find row_cmp q rows ≡ find row_cmp q (drop from rows)
find_skips rows q zero h = refl
find_skips [] q (suc from) h = refl
find_skips (row ∷ rows) q (suc from) h = cond-false _ _ _ (h 0 row (omega arith) (omega arith)) ∙ find_skips rows q from (λ k d lt within. h (suc k) d (omega arith) (omega arith))

module _ (rows : List KeyedRow) (table : ℕ) (above : Option ℤ) (from : ℕ) (order : AreInOrder rows) (bound : from ≤ length rows) (point : IsPassedUpTo rows table above from) where
  -- a row that is not passed is looked for behind
  skips : (q : RowId) → is_passed table above q ≡ false → get (contents_of rows) q ≡ find row_cmp q (drop from rows)
  skips q not = get_rows rows q ∙ find_skips rows q from (λ k d lt within. false_from_ne_true _ (λ same.
      true≢false (sym (point.0 k d (omega arith) lt) ∙ ap (is_passed table above) (sym (row_is q (get_or rows k d).0 same)) ∙ not)))

  pub none_left : length rows ≤ from → NoneAbove (contents_of rows) table above
  none_left all = λ key is. skips (row_at table key) (above_not_passed table above key is) ∙ ap (find row_cmp (row_at table key)) (drop_all from rows all)

  module _ (row : KeyedRow) (within : from < length rows) (here : row ≡ get_or rows from row) where
    not_passed_here : (table ≤ row.0.table) × (row.0.table ≡ table → IsAbove above row.0.key)
    not_passed_here = not_passed table above row.0 (ap (λ (r : KeyedRow). is_passed table above r.0) here ∙ point.1 from row (omega arith) within)

    rest : drop from rows ≡ row ∷ drop (from + 1) rows
    rest = drop_more rows from row within ∙ ap (λ (r : KeyedRow). r ∷ drop (from + 1) rows) (sym here)

    -- what is before the first row that is not passed, and is not passed, is not there
    not_there : (q : RowId) → is_passed table above q ≡ false → row_cmp q row.0 ≡ Less → get (contents_of rows) q ≡ None
    not_there q not less =
        let behind : AreBehind row.0 (drop (from + 1) rows) = subst (λ (r : KeyedRow). AreBehind r.0 (drop (from + 1) rows)) (sym here) (behind_place rows order from row within) in
        skips q not ∙ ap (find row_cmp q) rest ∙ find_behind q (row ∷ drop (from + 1) rows) (less, behind_lesser q row.0 (drop (from + 1) rows) less behind)

    pub other_table : (row.0.table ≡ table → ⊥) → NoneAbove (contents_of rows) table above
    other_table other = λ key is.
        not_there (row_at table key) (above_not_passed table above key is) (lesser_table (row_at table key) row.0 (omega (arith, not_passed_here.0)))

    pub same_table : row.0.table ≡ table → IsLeastAbove (contents_of rows) table above row.0.key row.1
    same_table same = record {
      there = subst (λ t. get (contents_of rows) (row_at t row.0.key) ≡ Some row.1) same
          (skips row.0 (ap (λ (r : KeyedRow). is_passed table above r.0) here ∙ point.1 from row (omega arith) within) ∙ ap (find row_cmp row.0) rest
          ∙ find_head row.0 row (drop (from + 1) rows) refl);
      above = not_passed_here.1 same;
      least = λ other is below. not_there (row_at table other) (above_not_passed table above other is) (lesser_key (row_at table other) row.0 (sym same) below);
    }
