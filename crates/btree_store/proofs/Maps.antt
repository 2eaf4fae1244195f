-- An ordered map of rows as a finite map.
use Rattle.std.proofs.Common.{◌≡◌, ◌∙◌, sym, ap, refl, ℤ, cond, List, [], ◌∷◌, length, Some, None, BTreeMap}
use Rattle.std.specs.Bool.{passes}
use Rattle.std.specs.BTreeMap as tree
use Rattle.std.specs.BTreeMap.{is_at}
use Rattle.std.specs.Cmp.{eq_by_cmp_equiv}
use Rattle.std.specs.Map.{lookup}
use Rattle.std.specs.FinMap.{get, find, len, empty, insert, remove, from_entries, from_sorted, get-from_entries, get-from_sorted, get-insert, get-remove, len-entries, entries-from_sorted, same_map}
use Rattle.schema.specs.declared.RowId.{RowId}
use Rattle.schema.specs.RowId.{row_cmp, row_total, exact_row}
use Rattle.store_trait.proofs.Rising.{sorted_from_keys}
use Rattle.btree_store.specs.Contents.{contents_of}

find_row : (es : List (RowId × List ℤ)) (q : RowId) → find row_cmp q es ≡ lookup (is_at (row_cmp q)) es
find_row [] q = refl
find_row (e ∷ es) q = ap (cond (is_at (row_cmp q) e.0) (Some e.1)) (find_row es q)

-- what the map has at a row
pub get_row : (m : BTreeMap RowId (List ℤ)) (q : RowId) → get (contents_of m) q ≡ tree.get row_cmp m q
get_row m q = get-from_entries row_total m.entries q ∙ find_row m.entries q

turned : (id q : RowId) → is_at (row_cmp id) q ≡ is_at (row_cmp q) id
turned id q = (eq_by_cmp_equiv row_total).symm id q

module _ (m n : BTreeMap RowId (List ℤ)) (id : RowId) where
  -- with one row set
  pub contents-set : (columns : List ℤ) → ((q : RowId) → tree.get row_cmp n q ≡ cond (is_at (row_cmp id) q) (Some columns) (tree.get row_cmp m q)) → contents_of n ≡ insert (contents_of m) id columns
  contents-set columns is = same_map row_total exact_row (contents_of n) (insert (contents_of m) id columns) (λ q.
      get_row n q ∙ is q ∙ (λ i. cond (turned id q i) (Some columns) (sym (get_row m q) i)) ∙ sym (get-insert row_total (contents_of m) id columns q))

  -- with one row taken out
  pub contents-removed : ((q : RowId) → tree.get row_cmp n q ≡ cond (is_at (row_cmp id) q) None (tree.get row_cmp m q)) → contents_of n ≡ remove (contents_of m) id
  contents-removed is = same_map row_total exact_row (contents_of n) (remove (contents_of m) id) (λ q.
      get_row n q ∙ is q ∙ (λ i. cond (turned id q i) None (sym (get_row m q) i)) ∙ sym (get-remove row_total (contents_of m) id q))

-- how many rows there are
pub len-contents : (m : BTreeMap RowId (List ℤ)) → tree.IsOrdered row_cmp m → len (contents_of m) ≡ length m.entries
len-contents m ordered =
    let sorted = passes _ (sorted_from_keys m.entries ordered) in
    let same = same_map row_total exact_row (contents_of m) (from_sorted m.entries) (λ q. get-from_entries row_total m.entries q ∙ sym (get-from_sorted row_cmp m.entries q sorted)) in
    ap len same ∙ len-entries (from_sorted {R = row_cmp} m.entries) ∙ ap length (entries-from_sorted row_cmp m.entries sorted)

-- a map without entries
pub contents-empty : (m : BTreeMap RowId (List ℤ)) → tree.IsEmpty m → contents_of m ≡ empty
contents-empty m none = ap (λ es. from_entries {R = row_cmp} es) none
