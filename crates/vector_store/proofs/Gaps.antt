-- Rows around a gap, as the gap moves.
use Rattle.std.proofs.Common.{◌≡◌, ◌∙◌, sym, ap, refl, subst, ℕ, ◌+◌, ◌-◌, ◌≤◌, Bool, true, false, cond, List, [], ◌∷◌, ◌++◌, length, take, drop, get_or, Option, Some, None, is_some, Ok, Err, ℤ}
use Rattle.std.proofs.Common.{arith, append_assoc, length-take}
use Rattle.std.specs.List.{copy_within}
use Rattle.std.specs.FinMap.{get, find, insert, remove, get-insert, get-remove, same_map}
use Rattle.std.proofs.lemmas.List.{take-append-drop, drop-append-le, drop_at, drop-take, length-take-le}
use Rattle.schema.specs.declared.RowId.{RowId}
use Rattle.schema.specs.RowId.{row_cmp, row_total, exact_row, same_row}
use Rattle.rows.specs.Database.{Database}
use Rattle.vector_store.specs.Contents.{KeyedRow, contents_of, AreBehind, AreInOrder}
use Rattle.vector_store.specs.Places.{IsPlaceOf}
use Rattle.vector_store.specs.Gap.{IsParted}
use Rattle.vector_store.proofs.Order.{behind_join, order_without, find_between, find_here, get_rows, contents-absent, contents-removed}
use Rattle.vector_store.proofs.Finding.{around_place}

-- ---- the rows between two places are moved up to the end of the gap

module _ (rows : List KeyedRow) (start end behind : ℕ) (rises : start ≤ end) (within : end ≤ length rows) (below : behind ≤ start) where
  pub back_moved : (moved : List KeyedRow) → moved ≡ copy_within rows behind start (end - (start - behind)) → drop (end - (start - behind)) moved ≡ drop behind (take start rows) ++ drop end rows
  back_moved moved is =
      let n = start - behind in
      let to = end - n in
      let middle = take n (drop behind rows) in
      let rest = drop (to + n) rows in
      let same_middle : middle ≡ drop behind (take start rows) = sym (drop-take behind n rows) ∙ ap (λ k. drop behind (take k rows)) (omega arith) in
      let same_rest : rest ≡ drop end rows = ap (λ k. drop k rows) (omega arith) in
      ap (drop to) is ∙ ap (drop to) (append_assoc (take to rows) middle rest)
      ∙ drop_at (take to rows) (middle ++ rest) to (length-take-le to rows (omega arith)) ∙ (λ i. same_middle i ++ same_rest i)

  -- where there is no gap they stay
  pub back_stays : end - (start - behind) ≤ behind → drop (end - (start - behind)) rows ≡ drop behind (take start rows) ++ drop end rows
  back_stays none =
      let same : end ≡ start = omega arith in
      let to : end - (start - behind) ≡ behind = omega arith in
      ap (λ k. drop k rows) to ∙ ap (drop behind) (sym (take-append-drop start rows))
      ∙ drop-append-le behind (take start rows) (drop start rows) (omega (arith, length-take start rows)) ∙ ap (λ k. drop behind (take start rows) ++ drop k rows) (sym same)

-- ---- the gap is where a row is, or would be

module _ (xs ys : List KeyedRow) (id : RowId) (at : ℕ) (order : AreInOrder (xs ++ ys)) (behind : AreBehind id ys) where
  module _ (place : IsPlaceOf xs id (Ok at)) where
    columns : List ℤ
    columns = (get_or xs at (id, [])).1

    split : xs ++ ys ≡ take at xs ++ (id, columns) ∷ (drop (at + 1) xs ++ ys)
    unfolding columns
    split =
        let d : KeyedRow = (id, []) in
        let row : ◌≡◌ {A = KeyedRow} (get_or xs at d) (id, (get_or xs at d).1) = λ i. (place.1 d i, (get_or xs at d).1) in
        ap (λ l. l ++ ys) (around_place xs at d (omega (arith, place.0.within))) ∙ append_assoc (take at xs) (get_or xs at d ∷ drop (at + 1) xs) ys
        ∙ ap (λ (r : KeyedRow). take at xs ++ r ∷ (drop (at + 1) xs ++ ys)) row

    all_behind : AreBehind id (drop (at + 1) xs ++ ys)
    all_behind = behind_join id (drop (at + 1) xs) ys place.0.behind behind

    pub parted_found : IsParted (xs ++ ys) id (take at xs) (drop (at + 1) xs ++ ys)
    parted_found = record {
      order = order_without (take at xs) ((id, columns) ∷ []) (drop (at + 1) xs ++ ys) (subst (λ (l : List KeyedRow). AreInOrder l) split order);
      before = place.0.before;
      behind = all_behind;
      removed = contents-removed id (take at xs) (drop (at + 1) xs ++ ys) place.0.before all_behind columns ∙ ap (λ l. remove (contents_of l) id) (sym split);
    }

    pub is_found : is_some (get (contents_of (xs ++ ys)) id) ≡ true
    is_found = ap is_some (get_rows (xs ++ ys) id ∙ ap (λ l. find row_cmp id l) split ∙ find_here id columns (take at xs) (drop (at + 1) xs ++ ys) place.0.before)

  module _ (place : IsPlaceOf xs id (Err at)) where
    split_absent : xs ++ ys ≡ take at xs ++ (drop at xs ++ ys)
    split_absent = ap (λ l. l ++ ys) (sym (take-append-drop at xs)) ∙ append_assoc (take at xs) (drop at xs) ys

    rest_behind : AreBehind id (drop at xs ++ ys)
    rest_behind = behind_join id (drop at xs) ys place.behind behind

    pub parted_absent : IsParted (xs ++ ys) id (take at xs) (drop at xs ++ ys)
    parted_absent = record {
      order = subst (λ (l : List KeyedRow). AreInOrder l) split_absent order;
      before = place.before;
      behind = rest_behind;
      removed = contents-absent id (take at xs) (drop at xs ++ ys) place.before rest_behind ∙ ap (λ l. remove (contents_of l) id) (sym split_absent);
    }

    pub is_absent : is_some (get (contents_of (xs ++ ys)) id) ≡ false
    is_absent = ap is_some (get_rows (xs ++ ys) id ∙ ap (λ l. find row_cmp id l) split_absent ∙ find_between id (take at xs) (drop at xs ++ ys) place.before rest_behind)

-- ---- a row that is removed and put

pub insert-remove : (db : Database) (id : RowId) (columns : List ℤ) → insert (remove db id) id columns ≡ insert db id columns
insert-remove db id columns = same_map row_total exact_row (insert (remove db id) id columns) (insert db id columns) (λ q.
    get-insert row_total (remove db id) id columns q ∙ ap (cond (same_row q id) (Some columns)) (get-remove row_total db id q)
    ∙ over (same_row q id) (get db q) ∙ sym (get-insert row_total db id columns q))
  where
    over : (b : Bool) (o : Option (List ℤ)) → cond b (Some columns) (cond b None o) ≡ cond b (Some columns) o
    over true o = refl
    over false o = refl
