-- How many rows name a row as their parent.
use Rattle.std.proofs.Common.{◌≡◌, ◌∙◌, sym, ap, refl, inl, inr, ℕ, ◌+◌, ◌≤◌, arith, Bool, true, false, not, ◌||◌, cond, is_eq, is_lt, Ordering, Less, Equal, Greater, ℤ, List, [], ◌∷◌, Option, Some}
use Rattle.std.proofs.Common.{None, nat_lt}
use Rattle.std.specs.List.{IsDistinct, list_any, count_by}
use Rattle.std.specs.Map.{keys_of}
use Rattle.std.specs.Option.{option_map_or}
use Rattle.std.specs.Cmp.{eq_by_cmp_equiv}
use Rattle.std.specs.FinMap.{FinMap, get, find, put, entries, entries_sorted, get-entries, is_sorted}
use Rattle.std.specs.FinMap.Entries.{by_order, where_key, below_all, same_entries, is_sorted-where_key, find-where_key}
use Rattle.std.proofs.Math.Nat.{zero-add}
use Rattle.std.proofs.lemmas.Bool.{cases_Bool, and_parts, or_cases, or_left, or_right, ltb-true, ltb-false, lt-ltb}
use Rattle.std.proofs.lemmas.List.Sums.{sum_by-cons}
use Rattle.schema.specs.declared.Table.{Table}
use Rattle.schema.specs.declared.RowId.{RowId}
use Rattle.schema.specs.RowId.{row_cmp, same_row, row_total, exact_row}
use Rattle.schema.proofs.RowMaps.{row_is}
use Rattle.schema.proofs.Telling.{both_or_none}
use Rattle.rows.specs.Database.{Database, put_row}
use Rattle.rows.proofs.Apply.{get-put_row, put_there}
use Rattle.store_trait.specs.Batch.{Entry, IsRising, put_batch, in_order}
use Rattle.store_trait.proofs.Batches.{less_apart, holds, find_below, find-in_order}
use Rattle.overlay.specs.Pending.{Pending, seen}
use Rattle.overlay.specs.Children.{names_row, left_names, child_count, changed_children, has_child_by, TellsByCount}
use Rattle.overlay.proofs.Entries.{AreOnce, once_from_distinct, any_left}

abbrev pub one_if : Bool → ℕ
one_if b = cond b 1 0

-- ---- entries in the order of rows that pass a test

module _ {X : Type 0} (test : RowId × X → Bool) where
  count-cons : (e : RowId × X) (es : List (RowId × X)) → count_by test (e ∷ es) ≡ one_if (test e) + count_by test es
  count-cons e es = sum_by-cons (λ x. cond (test x) 1 0) e es

  -- what stands at a row, if anything, passes
  abbrev pub passes_at : RowId → Option X → Bool
  passes_at id o = option_map_or (λ x. test (id, x)) o false

  abbrev without : RowId → List (RowId × X) → List (RowId × X)
  without id es = where_key row_cmp (λ x. not (same_row id x)) es

  -- one row counts by itself
  count_without : (id : RowId) (es : List (RowId × X)) → is_sorted row_cmp es ≡ true → count_by test es ≡ one_if (passes_at id (find row_cmp id es)) + count_by test (without id es)
  count_without id [] sorted = refl
  count_without id (e ∷ es) sorted =
      let parts = and_parts (below_all row_cmp e.0 es) (is_sorted row_cmp es) sorted in
      count-cons e es ∙ by (count_without id es parts.1) (find_below e.0 es parts.0) (same_row id e.0) refl
    where
      by : count_by test es ≡ one_if (passes_at id (find row_cmp id es)) + count_by test (without id es) → find row_cmp e.0 es ≡ None → (b : Bool) → same_row id e.0 ≡ b →
          one_if (test e) + count_by test es ≡ one_if (passes_at id (cond b (Some e.1) (find row_cmp id es))) + count_by test (cond (not b) (e ∷ without id es) (without id es))
      by rest none true same =
          let it : id ≡ e.0 = row_is id e.0 same in
          let absent : find row_cmp id es ≡ None = ap (λ q. find row_cmp q es) it ∙ none in
          omega (arith, rest, ap (λ o. one_if (passes_at id o)) absent, ap (λ q. one_if (test (q, e.1))) it)
      by rest none false other = omega (arith, rest, count-cons e (without id es))

  alike_without : (id : RowId) (m n : FinMap row_cmp X) → ((q : RowId) → same_row id q ≡ false → get n q ≡ get m q) → without id (entries n) ≡ without id (entries m)
  alike_without id m n same =
      let kept : (es : List (RowId × X)) (q : RowId) → find row_cmp q (without id es) ≡ cond (not (same_row id q)) (find row_cmp q es) None =
      λ es q. find-where_key row_cmp (λ x. not (same_row id x)) q (λ x tie. ap (λ y. not (same_row id y)) (sym (exact_row q x tie))) es in
      same_entries row_cmp row_total exact_row (without id (entries n)) (without id (entries m))
      (is_sorted-where_key row_cmp (λ x. not (same_row id x)) (entries n) (entries_sorted n)) (is_sorted-where_key row_cmp (λ x. not (same_row id x)) (entries m) (entries_sorted m))
      (λ q. kept (entries n) q ∙ by q (same_row id q) refl ∙ sym (kept (entries m) q))
    where
      by : (q : RowId) (b : Bool) → same_row id q ≡ b → cond (not b) (find row_cmp q (entries n)) None ≡ cond (not b) (find row_cmp q (entries m)) None
      by q true at = refl
      by q false other = sym (get-entries n q) ∙ same q other ∙ get-entries m q

  -- where one row moves, the count moves by it
  moved_count : (id : RowId) (m n : FinMap row_cmp X) → ((q : RowId) → same_row id q ≡ false → get n q ≡ get m q) →
      count_by test (entries n) + one_if (passes_at id (get m id)) ≡ count_by test (entries m) + one_if (passes_at id (get n id))
  moved_count id m n same =
      omega (arith, its m, its n, ap (count_by test) (alike_without id m n same))
    where
      its : (l : FinMap row_cmp X) → count_by test (entries l) ≡ one_if (passes_at id (get l id)) + count_by test (without id (entries l))
      its l = count_without id (entries l) (holds _ (entries_sorted l)) ∙ ap (λ o. one_if (passes_at id o) + count_by test (without id (entries l))) (sym (get-entries l id))

  -- ---- in any order

  count-put : (id : RowId) (x : X) (es : List (RowId × X)) → find row_cmp id es ≡ None → count_by test (put row_cmp id x es) ≡ one_if (test (id, x)) + count_by test es
  count-put id x [] none = count-cons (id, x) []
  count-put id x (e ∷ es) none = by (count-put id x es) (row_cmp id e.0) none
    where
      by : (find row_cmp id es ≡ None → count_by test (put row_cmp id x es) ≡ one_if (test (id, x)) + count_by test es) → (r : Ordering) → cond (is_eq r) (Some e.1) (find row_cmp id es) ≡ None →
          count_by test (by_order r ((id, x) ∷ e ∷ es) ((e.0, x) ∷ es) (e ∷ put row_cmp id x es)) ≡ one_if (test (id, x)) + count_by test (e ∷ es)
      by rest Less absent = count-cons (id, x) (e ∷ es)
      by rest Equal absent = absurd cc
      by rest Greater absent = omega (arith, rest absent, count-cons e (put row_cmp id x es), count-cons e es)

  -- whether one passes
  any_counted : (es : List (RowId × X)) → list_any test es ≡ nat_lt 0 (count_by test es)
  any_counted [] = refl
  any_counted (e ∷ es) = ap (λ b. test e || b) (any_counted es) ∙ by (test e) (count_by test es) ∙ ap (nat_lt 0) (sym (count-cons e es))
    where
      by : (b : Bool) (n : ℕ) → (b || nat_lt 0 n) ≡ nat_lt 0 (one_if b + n)
      by true n = sym (lt-ltb 0 (1 + n) (omega arith))
      by false n = ap (nat_lt 0) (sym (zero-add n))

pub count_in_order : (test : Entry → Bool) (es : List Entry) → AreOnce es → count_by test (in_order es) ≡ count_by test es
count_in_order test [] once = refl
count_in_order test (e ∷ es) once =
    count-put test e.0 e.1 (in_order es) (find-in_order es e.0 ∙ once.0) ∙ ap (λ n. one_if (test e) + n) (count_in_order test es once.1) ∙ sym (count-cons test e es)

-- ---- behind a batch

-- rows behind this one count as before, where another answer is only there
alike_behind : (f g : RowId → Bool) (x : RowId) (es : List Entry) → below_all row_cmp x es ≡ true → ((q : RowId) → same_row x q ≡ false → f q ≡ g q) →
    count_by (λ (e : Entry). f e.0) es ≡ count_by (λ (e : Entry). g e.0) es
alike_behind f g x [] below same = refl
alike_behind f g x (e ∷ es) below same =
    let parts = and_parts (is_lt (row_cmp x e.0)) (below_all row_cmp x es) below in
    count-cons (λ (d : Entry). f d.0) e es ∙ (λ i. one_if (same e.0 (less_apart (row_cmp x e.0) parts.0) i) + alike_behind f g x es parts.1 same i) ∙ sym (count-cons (λ (d : Entry). g d.0) e es)

module _ (ts : List Table) (row : RowId) where
  -- of a row with what it has
  abbrev names_at : Database → RowId → Bool
  names_at db id = left_names ts row (id, get db id)

  put_apart : (db : Database) (id : RowId) (left : Option (List ℤ)) (q : RowId) → same_row id q ≡ false → get (put_row db id left) q ≡ get db q
  put_apart db id left q other = get-put_row db id q left ∙ ap (λ b. cond b left (get db q)) ((eq_by_cmp_equiv row_total).symm q id ∙ other)

  one_moved : (db : Database) (id : RowId) (left : Option (List ℤ)) → child_count ts (put_row db id left) row + one_if (names_at db id) ≡ child_count ts db row + one_if (left_names ts row (id, left))
  one_moved db id left =
      moved_count (λ (e : RowId × List ℤ). names_row ts row e.0.table e.1) id db (put_row db id left) (put_apart db id left)
      ∙ ap (λ o. child_count ts db row + one_if (left_names ts row (id, o))) (put_there db id left)

  others_stay : (db : Database) (id : RowId) (left : Option (List ℤ)) (es : List Entry) → below_all row_cmp id es ≡ true →
      count_by (λ (e : Entry). names_at (put_row db id left) e.0) es ≡ count_by (λ (e : Entry). names_at db e.0) es
  others_stay db id left es below =
      alike_behind (names_at (put_row db id left)) (names_at db) id es below (λ q other. ap (λ o. left_names ts row (q, o)) (put_apart db id left q other))

  -- the rows of a batch go from among the children, and come again as the batch has them
  pub count_moves : (db : Database) (batch : List Entry) → IsRising batch →
      child_count ts (put_batch batch db) row + count_by (λ (e : Entry). names_at db e.0) batch ≡ child_count ts db row + count_by (left_names ts row) batch
  count_moves db [] rising = refl
  count_moves db (e ∷ es) rising =
      let parts = and_parts (below_all row_cmp e.0 es) (is_sorted row_cmp es) rising in
      let next = put_row db e.0 e.1 in
      omega (arith, count_moves next es parts.1, one_moved db e.0 e.1, others_stay db e.0 e.1 es parts.0, count-cons (λ (d : Entry). names_at db d.0) e es, count-cons (left_names ts row) e es)

  -- those of its rows that are children are among the children
  pub changed_are_counted : (db : Database) (batch : List Entry) → IsRising batch → count_by (λ (e : Entry). names_at db e.0) batch ≤ child_count ts db row
  changed_are_counted db [] rising = omega arith
  changed_are_counted db (e ∷ es) rising =
      let parts = and_parts (below_all row_cmp e.0 es) (is_sorted row_cmp es) rising in
      omega (arith, changed_are_counted (put_row db e.0 None) es parts.1, one_moved db e.0 None, others_stay db e.0 None es parts.0, count-cons (λ (d : Entry). names_at db d.0) e es)

pub tells_by_count : TellsByCount
tells_by_count ts db pending row rising =
    let own = any_counted (left_names ts row) pending.left in
    let then_ = any_counted (λ (e : RowId × List ℤ). names_row ts row e.0.table e.1) (entries (seen pending db)) in
    ap (λ b. b || nat_lt (changed_children ts db pending row) (child_count ts db row)) own
    ∙ by (count_by (left_names ts row) pending.left) (changed_children ts db pending row) (child_count ts db row) (child_count ts (seen pending db) row)
    (count_moves ts row db pending.left rising) (changed_are_counted ts row db pending.left rising)
    ∙ sym then_
  where
    by : (own changed count after : ℕ) → after + changed ≡ count + own → changed ≤ count → (nat_lt 0 own || nat_lt changed count) ≡ nat_lt 0 after
    by own changed count after moves least =
        both_or_none (nat_lt 0 own || nat_lt changed count) (nat_lt 0 after)
        (λ h. lt-ltb 0 after (elim (or_cases (nat_lt 0 own) (nat_lt changed count) h) [
          | inl some ↦ let more = ltb-true 0 own some in omega arith
          | inr some ↦ let more = ltb-true changed count some in omega arith
        ]))
        (λ h. let some = ltb-true 0 after h in elim (cases_Bool (nat_lt changed count)) [
          | inl more ↦ or_right (nat_lt 0 own) (nat_lt changed count) more
          | inr none ↦ or_left (nat_lt 0 own) (nat_lt changed count) (lt-ltb 0 own (let most = ltb-false changed count none in omega arith))
        ])

-- told from the rows as they are kept
pub told_by_count : (ts : List Table) (db : Database) (pending : Pending) (es : List Entry) (count : ℕ) (row : RowId) (own more : Bool) → in_order es ≡ pending.left →
    IsDistinct same_row (keys_of es) →
    own ≡ list_any (left_names ts row) es → more ≡ nat_lt (count_by (λ (e : Entry). left_names ts row (e.0, get db e.0)) es) count → (own || more) ≡ has_child_by ts db pending count row
told_by_count ts db pending es count row own more left_is distinct own_is more_is =
    let changed : count_by (λ (e : Entry). left_names ts row (e.0, get db e.0)) es ≡ changed_children ts db pending row =
    sym (count_in_order (λ (e : Entry). left_names ts row (e.0, get db e.0)) es (once_from_distinct es distinct)) ∙ ap (count_by (λ (e : Entry). left_names ts row (e.0, get db e.0))) left_is in
    λ i. any_left (left_names ts row) es pending own left_is distinct own_is i || (more_is ∙ ap (λ n. nat_lt n count) changed) i
