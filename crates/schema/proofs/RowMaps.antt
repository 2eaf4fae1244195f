-- A list of rows and what each has, as a map looks it up by `==`, is a finite map in the order of rows.
use Rattle.std.proofs.Common.{◌≡◌, ◌∙◌, sym, ap, Bool, true, false, ◌&&◌, cond, eqb, int_eq, refl, List, [], ◌∷◌, Some, None, nat_cmp, int_cmp, Less, is_lt}
use Rattle.std.specs.Ordering.{ordering_reverse}
use Rattle.std.specs.Cmp.{unsigned_tied, tied_then, eq_by_cmp_equiv}
use Rattle.std.specs.Map.{lookup}
use Rattle.std.specs.FinMap.{FinMap, get, find, insert, remove, from_entries, get-from_entries, get-insert, get-remove, same_map}
use Rattle.schema.specs.declared.RowId.{RowId}
use Rattle.schema.specs.RowId.{row_cmp, same_row, row_total, exact_row}
use Rattle.schema.proofs.Telling.{is_equal}

-- what `==` answers of two row ids
abbrev pub row_eq : RowId → RowId → Bool
row_eq a b = eqb a.table b.table && int_eq a.key b.key

pub row_eq-same_row : (a b : RowId) → row_eq a b ≡ same_row a b
row_eq-same_row a b = ap (λ t. t && int_eq a.key b.key) (sym (unsigned_tied a.table b.table)) ∙ tied_then (nat_cmp a.table b.table) (int_cmp a.key b.key)

pub turned : (a b : RowId) → row_eq a b ≡ same_row b a
turned a b = row_eq-same_row a b ∙ (eq_by_cmp_equiv row_total).symm a b

pub same_row_itself : (a : RowId) → same_row a a ≡ true
same_row_itself a = (eq_by_cmp_equiv row_total).refl a

-- row ids that name one row are equal
pub row_is : (a b : RowId) → same_row a b ≡ true → a ≡ b
row_is a b h = exact_row a b (is_equal (row_cmp a b) h)

-- of two row ids in order the second is not before the first
pub not_back : (a b : RowId) → row_cmp a b ≡ Less → is_lt (row_cmp b a) ≡ false
not_back a b less = ap is_lt (row_total.antisymm b a ∙ ap ordering_reverse less)

module _ {X : Type 0} where
  abbrev pub rows_of : List (RowId × X) → FinMap row_cmp X
  rows_of es = from_entries {R = row_cmp} es

  pub lookup-find : (es : List (RowId × X)) (q : RowId) → lookup (row_eq q) es ≡ find row_cmp q es
  lookup-find [] q = refl
  lookup-find (e ∷ es) q = λ i. cond (row_eq-same_row q e.0 i) (Some e.1) (lookup-find es q i)

  -- what the map has at a row
  pub get_row : (es : List (RowId × X)) (q : RowId) → get (rows_of es) q ≡ lookup (row_eq q) es
  get_row es q = get-from_entries row_total es q ∙ sym (lookup-find es q)

  -- with one row set
  pub rows-set : (es fs : List (RowId × X)) (k : RowId) (v : X) → ((q : RowId) → lookup (row_eq q) fs ≡ cond (row_eq k q) (Some v) (lookup (row_eq q) es)) → rows_of fs ≡ insert (rows_of es) k v
  rows-set es fs k v is = same_map row_total exact_row (rows_of fs) (insert (rows_of es) k v) (λ q.
      get_row fs q ∙ is q ∙ (λ i. cond (turned k q i) (Some v) (sym (get_row es q) i)) ∙ sym (get-insert row_total (rows_of es) k v q))

  -- with one row taken out
  pub rows-removed : (es fs : List (RowId × X)) (k : RowId) → ((q : RowId) → lookup (row_eq q) fs ≡ cond (row_eq k q) None (lookup (row_eq q) es)) → rows_of fs ≡ remove (rows_of es) k
  rows-removed es fs k is = same_map row_total exact_row (rows_of fs) (remove (rows_of es) k) (λ q.
      get_row fs q ∙ is q ∙ (λ i. cond (turned k q i) None (sym (get_row es q) i)) ∙ sym (get-remove row_total (rows_of es) k q))
