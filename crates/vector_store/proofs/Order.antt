-- Lists of rows in order: their parts, and what is found in them.
use Rattle.std.proofs.Common.{◌≡◌, ◌∙◌, sym, ap, refl, Bool, true, false, cond, List, [], ◌∷◌, ◌++◌, Option, Some, None, ℤ, is_lt, is_eq, Less}
use Rattle.std.specs.Cmp.{tied_itself, eq_by_cmp_equiv}
use Rattle.std.specs.FinMap.{get, find, insert, remove, is_sorted, get-from_entries, get-insert, get-remove, same_map}
use Rattle.std.specs.FinMap.Entries.{below_all}
use Rattle.std.proofs.lemmas.Bool.{and_parts, and_from, cond-true, cond-false, false≢true}
use Rattle.schema.specs.declared.RowId.{RowId}
use Rattle.schema.specs.RowId.{row_cmp, row_total, exact_row, same_row}
use Rattle.schema.proofs.Telling.{is_less}
use Rattle.schema.proofs.Lists.{AllByRecursion-append, AllByRecursion-front, AllByRecursion-behind}
use Rattle.rows.proofs.Apply.{row_is}
use Rattle.store_trait.proofs.Batches.{less_apart}
use Rattle.vector_store.specs.Contents.{KeyedRow, contents_of, AreBefore, AreBehind, AreInOrder}

-- ids that differ
pub apart : (a b : RowId) → row_cmp a b ≡ Less → same_row a b ≡ false
apart a b less = less_apart (row_cmp a b) (ap is_lt less)

pub apart_back : (a b : RowId) → row_cmp a b ≡ Less → same_row b a ≡ false
apart_back a b less = (eq_by_cmp_equiv row_total).symm b a ∙ apart a b less

module _ {X : Type 0} where
  pub order_sorted : (rows : List (RowId × X)) → AreInOrder rows → is_sorted row_cmp rows ≡ true
  order_sorted [] h = refl
  order_sorted (row ∷ rows) h = and_from _ _ (below row.0 rows h.0) (order_sorted rows h.1)
    where
      below : (id : RowId) (rows : List (RowId × X)) → AreBehind id rows → below_all row_cmp id rows ≡ true
      below id [] h = refl
      below id (row ∷ rows) h = and_from _ _ (ap is_lt h.0) (below id rows h.1)

  pub sorted_order : (rows : List (RowId × X)) → is_sorted row_cmp rows ≡ true → AreInOrder rows
  sorted_order [] h = tt
  sorted_order (row ∷ rows) h =
      let parts = and_parts (below_all row_cmp row.0 rows) (is_sorted row_cmp rows) h in
      (behind row.0 rows parts.0, sorted_order rows parts.1)
    where
      behind : (id : RowId) (rows : List (RowId × X)) → below_all row_cmp id rows ≡ true → AreBehind id rows
      behind id [] h = tt
      behind id (row ∷ rows) h =
          let parts = and_parts (is_lt (row_cmp id row.0)) (below_all row_cmp id rows) h in
          (is_less _ parts.0, behind id rows parts.1)

  -- ---- before and behind

  pub behind_lesser : (a b : RowId) (rows : List (RowId × X)) → row_cmp a b ≡ Less → AreBehind b rows → AreBehind a rows
  behind_lesser a b [] less h = tt
  behind_lesser a b (row ∷ rows) less h = (row_total.trans a b row.0 less h.0, behind_lesser a b rows less h.1)

  pub before_greater : (a b : RowId) (rows : List (RowId × X)) → row_cmp a b ≡ Less → AreBefore rows a → AreBefore rows b
  before_greater a b [] less h = tt
  before_greater a b (row ∷ rows) less h = (row_total.trans row.0 a b h.0 less, before_greater a b rows less h.1)

  pub behind_join : (id : RowId) (xs ys : List (RowId × X)) → AreBehind id xs → AreBehind id ys → AreBehind id (xs ++ ys)
  behind_join id xs ys = AllByRecursion-append (λ (row : RowId × X). row_cmp id row.0 ≡ Less) xs ys

  pub behind_parts : (id : RowId) (xs ys : List (RowId × X)) → AreBehind id (xs ++ ys) → AreBehind id xs × AreBehind id ys
  behind_parts id xs ys = λ all. (AllByRecursion-front (λ (row : RowId × X). row_cmp id row.0 ≡ Less) xs ys all, AllByRecursion-behind (λ (row : RowId × X). row_cmp id row.0 ≡ Less) xs ys all)

  pub before_join : (id : RowId) (xs ys : List (RowId × X)) → AreBefore xs id → AreBefore ys id → AreBefore (xs ++ ys) id
  before_join id xs ys = AllByRecursion-append (λ (row : RowId × X). row_cmp row.0 id ≡ Less) xs ys

  -- ---- two lists, one behind the other

  pub order_parts : (xs ys : List (RowId × X)) → AreInOrder (xs ++ ys) → AreInOrder xs × AreInOrder ys
  order_parts [] ys h = (tt, h)
  order_parts (x ∷ xs) ys h = let parts = order_parts xs ys h.1 in (((behind_parts x.0 xs ys h.0).0, parts.0), parts.1)

  -- a row stands behind those before it
  pub order_before : (xs ys : List (RowId × X)) (row : RowId × X) → AreInOrder (xs ++ row ∷ ys) → AreBefore xs row.0
  order_before [] ys row h = tt
  order_before (x ∷ xs) ys row h = ((behind_parts x.0 xs (row ∷ ys) h.0).1.0, order_before xs ys row h.1)

  -- and before those behind it
  pub order_behind : (xs ys : List (RowId × X)) (row : RowId × X) → AreInOrder (xs ++ row ∷ ys) → AreBehind row.0 ys
  order_behind xs ys row h = (order_parts xs (row ∷ ys) h).1.0

  -- rows before an id and rows behind it, with a row of this id between
  pub order_between : (id : RowId) (v : X) (xs ys : List (RowId × X)) → AreInOrder (xs ++ ys) → AreBefore xs id → AreBehind id ys → AreInOrder (xs ++ (id, v) ∷ ys)
  order_between id v [] ys h before behind = (behind, h)
  order_between id v (x ∷ xs) ys h before behind =
      let parts = behind_parts x.0 xs ys h.0 in
      (behind_join x.0 xs ((id, v) ∷ ys) parts.0 (before.0, parts.1), order_between id v xs ys h.1 before.1 behind)

  -- without the rows between
  pub order_without : (xs ys zs : List (RowId × X)) → AreInOrder (xs ++ (ys ++ zs)) → AreInOrder (xs ++ zs)
  order_without [] ys zs h = (order_parts ys zs h).1
  order_without (x ∷ xs) ys zs h =
      let parts = behind_parts x.0 xs (ys ++ zs) h.0 in
      (behind_join x.0 xs zs parts.0 (behind_parts x.0 ys zs parts.1).1, order_without xs ys zs h.1)

  -- ---- what is found

  pub find_behind : (id : RowId) (rows : List (RowId × X)) → AreBehind id rows → find row_cmp id rows ≡ None
  find_behind id [] h = refl
  find_behind id (row ∷ rows) h = cond-false _ _ _ (apart id row.0 h.0) ∙ find_behind id rows h.1

  pub find_past : (id : RowId) (xs ys : List (RowId × X)) → AreBefore xs id → find row_cmp id (xs ++ ys) ≡ find row_cmp id ys
  find_past id [] ys h = refl
  find_past id (x ∷ xs) ys h = cond-false _ _ _ (apart_back x.0 id h.0) ∙ find_past id xs ys h.1

  -- neither before it nor behind it
  pub find_between : (id : RowId) (xs ys : List (RowId × X)) → AreBefore xs id → AreBehind id ys → find row_cmp id (xs ++ ys) ≡ None
  find_between id xs ys before behind = find_past id xs ys before ∙ find_behind id ys behind

  pub find_here : (id : RowId) (v : X) (xs ys : List (RowId × X)) → AreBefore xs id → find row_cmp id (xs ++ (id, v) ∷ ys) ≡ Some v
  find_here id v xs ys before = find_past id xs ((id, v) ∷ ys) before ∙ cond-true _ _ _ (ap is_eq (tied_itself row_total id))

  -- rows whose ids stand behind are found before as with them
  pub find_first : (id : RowId) (xs ys : List (RowId × X)) → AreBehind id ys → find row_cmp id (xs ++ ys) ≡ find row_cmp id xs
  find_first id [] ys behind = find_behind id ys behind
  find_first id (x ∷ xs) ys behind = ap (cond (same_row id x.0) (Some x.1)) (find_first id xs ys behind)

  swapped : (a b : Bool) (x y z : Option X) → (a ≡ true → b ≡ true → ⊥) → cond a x (cond b y z) ≡ cond b y (cond a x z)
  swapped true true x y z not = absurd (not refl refl)
  swapped true false x y z not = refl
  swapped false b x y z not = refl

  -- with one more row
  pub find_more : (q id : RowId) (v : X) (xs ys : List (RowId × X)) → AreBefore xs id → find row_cmp q (xs ++ (id, v) ∷ ys) ≡ cond (same_row q id) (Some v) (find row_cmp q (xs ++ ys))
  find_more q id v [] ys before = refl
  find_more q id v (x ∷ xs) ys before =
      ap (cond (same_row q x.0) (Some x.1)) (find_more q id v xs ys before.1)
      ∙ swapped (same_row q x.0) (same_row q id) (Some x.1) (Some v) (find row_cmp q (xs ++ ys)) (λ a b.
      false≢true (sym (apart x.0 id before.0) ∙ ap (λ r. same_row r id) (sym (row_is q x.0 a)) ∙ b))

-- ---- databases

pub get_rows : (rows : List KeyedRow) (q : RowId) → get (contents_of rows) q ≡ find row_cmp q rows
get_rows rows q = get-from_entries row_total rows q

module _ (id : RowId) (xs ys : List KeyedRow) (before : AreBefore xs id) where
  -- a row that is put between others
  pub contents-between : (columns : List ℤ) → contents_of (xs ++ (id, columns) ∷ ys) ≡ insert (contents_of (xs ++ ys)) id columns
  contents-between columns = same_map row_total exact_row _ _ (λ q.
      get_rows (xs ++ (id, columns) ∷ ys) q ∙ find_more q id columns xs ys before
      ∙ ap (cond (same_row q id) (Some columns)) (sym (get_rows (xs ++ ys) q)) ∙ sym (get-insert row_total (contents_of (xs ++ ys)) id columns q))

  module _ (behind : AreBehind id ys) where
    -- the row is not there, so it need not be removed
    pub contents-absent : contents_of (xs ++ ys) ≡ remove (contents_of (xs ++ ys)) id
    contents-absent = same_map row_total exact_row _ _ (λ q. at q (same_row q id) refl ∙ sym (get-remove row_total (contents_of (xs ++ ys)) id q))
      where
        at : (q : RowId) (b : Bool) → same_row q id ≡ b → get (contents_of (xs ++ ys)) q ≡ cond b None (get (contents_of (xs ++ ys)) q)
        at q true same = ap (get (contents_of (xs ++ ys))) (row_is q id same) ∙ get_rows (xs ++ ys) id ∙ find_between id xs ys before behind
        at q false other = refl

    -- a row between others that is removed
    pub contents-removed : (columns : List ℤ) → contents_of (xs ++ ys) ≡ remove (contents_of (xs ++ (id, columns) ∷ ys)) id
    contents-removed columns = same_map row_total exact_row _ _ (λ q.
        at q (same_row q id) refl ∙ sym (get-remove row_total (contents_of (xs ++ (id, columns) ∷ ys)) id q))
      where
        at : (q : RowId) (b : Bool) → same_row q id ≡ b → get (contents_of (xs ++ ys)) q ≡ cond b None (get (contents_of (xs ++ (id, columns) ∷ ys)) q)
        at q true same = ap (get (contents_of (xs ++ ys))) (row_is q id same) ∙ get_rows (xs ++ ys) id ∙ find_between id xs ys before behind
        at q false other =
            get_rows (xs ++ ys) q ∙ sym (cond-false _ _ _ other) ∙ sym (find_more q id columns xs ys before) ∙ sym (get_rows (xs ++ (id, columns) ∷ ys) q)
