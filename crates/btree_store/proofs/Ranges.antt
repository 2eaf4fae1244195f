-- The rows of a table above a key, as a range of an ordered map.
use Rattle.std.proofs.Common.{◌≡◌, ◌∙◌, sym, ap, refl, subst, ℕ, ◌≤◌, ◌<◌, ℤ, pos, negsuc, ◌<ℤ◌, false, List, [], ◌∷◌, Option, Some, None, is_some, IsSome, IfSome, FitsSigned, w64, BTreeMap, Ordering}
use Rattle.std.proofs.Common.{Less, Equal, Greater, is_gt, nat_cmp, int_cmp, true≢false, arith, ⊎_elim, slice_get}
use Rattle.std.specs.BTreeMap as tree
use Rattle.std.specs.BTreeMap.Range.{IsInRange, IsRangeOf, IsEntryInRange, IsLeBy}
use Rattle.std.specs.declared.ops.Bound.{Bound}
use Rattle.std.specs.declared.ops.Bound.TheVariants.{Included, Excluded}
use Rattle.std.specs.Cmp.{tied_itself, nat_cmp_total}
use Rattle.std.specs.FinMap.{get}
use Rattle.std.specs.Ordering.{MatchOrdering, ordering_then}
use Rattle.std.proofs.lemmas.Cmp.{ranked, int_ranked}
use Rattle.std.proofs.lemmas.Int.{ints}
use Rattle.schema.specs.declared.RowId.{RowId}
use Rattle.schema.specs.RowId.{row_cmp}
use Rattle.store_trait.specs.Contents.{IsAbove, row_at, NoneAbove, IsLeastAbove}
use Rattle.store_trait.proofs.Walks.{lesser_row, lesser_key}
use Rattle.btree_store.specs.Contents.{contents_of, KeysFit}
use Rattle.btree_store.proofs.Maps.{get_row}

-- where the rows of a table above a key begin, and where they end
abbrev pub start_of : ℕ → Option ℤ → Bound RowId
start_of table None = Included (row_at table (negsuc 9223372036854775807))
start_of table (Some key) = Excluded (row_at table key)

abbrev pub end_of : ℕ → Bound RowId
end_of table = Included (row_at table (pos 9223372036854775807))

-- ---- the order of rows

not_above : (r : Ordering) (P Q R : Type 0) → MatchOrdering r P Q R → (R → ⊥) → is_gt r ≡ false
not_above Less P Q R p never = refl
not_above Equal P Q R p never = refl
not_above Greater P Q R p never = absurd (never p)

least_key : (key : ℤ) → FitsSigned w64 key → is_gt (int_cmp (negsuc 9223372036854775807) key) ≡ false
least_key key fits = not_above (int_cmp (negsuc 9223372036854775807) key) _ _ _ (int_ranked (negsuc 9223372036854775807) key _ refl) (λ below. omega (arith, ints))

greatest_key : (key : ℤ) → FitsSigned w64 key → is_gt (int_cmp key (pos 9223372036854775807)) ≡ false
greatest_key key fits = not_above (int_cmp key (pos 9223372036854775807)) _ _ _ (int_ranked key (pos 9223372036854775807) _ refl) (λ above. omega (arith, ints))

-- in one table the keys decide
same_table : (table : ℕ) (a b : ℤ) → row_cmp (row_at table a) (row_at table b) ≡ int_cmp a b
same_table table a b = ap (λ r. ordering_then r (int_cmp a b)) (tied_itself nat_cmp_total table)

table_up_to : (r s : Ordering) (a b : ℕ) → MatchOrdering r (a < b) (a ≡ b) (b < a) → is_gt (ordering_then r s) ≡ false → a ≤ b
table_up_to Less s a b p h = omega arith
table_up_to Equal s a b p h = omega arith
table_up_to Greater s a b p h = absurd (true≢false h)

tables_rise : (a b : RowId) → is_gt (row_cmp a b) ≡ false → a.table ≤ b.table
tables_rise a b h = table_up_to (nat_cmp a.table b.table) (int_cmp a.key b.key) a.table b.table (ranked a.table b.table _ refl) h

above_not : (r : Ordering) (a b : ℤ) → MatchOrdering r (a <ℤ b) (a ≡ b) (b <ℤ a) → is_gt r ≡ false → b <ℤ a → ⊥
above_not Less a b p h below = omega (arith, ints)
above_not Equal a b p h below = omega (arith, ints)
above_not Greater a b p h below = true≢false h

-- ---- the range

-- the rows of the table above the key are in it
in_range : (table : ℕ) (above : Option ℤ) (key : ℤ) → FitsSigned w64 key → IsAbove above key → IsInRange row_cmp (start_of table above) (end_of table) (row_at table key)
in_range table None key fits is =
    (ap is_gt (same_table table (negsuc 9223372036854775807) key) ∙ least_key key fits, ap is_gt (same_table table key (pos 9223372036854775807)) ∙ greatest_key key fits)
in_range table (Some bound) key fits is =
    (lesser_key (row_at table bound) (row_at table key) refl is, ap is_gt (same_table table key (pos 9223372036854775807)) ∙ greatest_key key fits)

-- and no others are
range_table : (table : ℕ) (above : Option ℤ) (id : RowId) → IsInRange row_cmp (start_of table above) (end_of table) id → (id.table ≡ table) × IsAbove above id.key
range_table table None id within =
    let low = tables_rise (row_at table (negsuc 9223372036854775807)) id within.0 in
    let high = tables_rise id (row_at table (pos 9223372036854775807)) within.1 in
    (omega arith, tt)
range_table table (Some bound) id within =
    let high = tables_rise id (row_at table (pos 9223372036854775807)) within.1 in
    ⊎_elim {C = (id.table ≡ table) × (bound <ℤ id.key)} (λ lt. absurd (omega arith)) (λ at. (sym at.0, at.1)) (lesser_row (row_at table bound) id within.0)

module _ (m : BTreeMap RowId (List ℤ)) (table : ℕ) (above : Option ℤ) (r : List (RowId × List ℤ)) (range : IsRangeOf row_cmp (start_of table above) (end_of table) m r)
    (fit : KeysFit (contents_of m)) where
  -- an empty range leaves no row
  pub none_next : r ≡ [] → NoneAbove (contents_of m) table above
  none_next empty = λ key is. at key is (get (contents_of m) (row_at table key)) refl
    where
      at : (key : ℤ) → IsAbove above key → (o : Option (List ℤ)) → get (contents_of m) (row_at table key) ≡ o → o ≡ None
      at key is None there = refl
      at key is (Some columns) there =
          sym there ∙ get_row m (row_at table key) ∙ range.5 empty (row_at table key) (in_range table above key (fit (row_at table key) columns there) is)

  -- the first of the range is the least row
  pub first_next : (id : RowId) (columns : List ℤ) (rest : List (RowId × List ℤ)) → r ≡ (id, columns) ∷ rest → IsLeastAbove (contents_of m) table above id.key columns
  first_next id columns rest is =
      let head : slice_get r 0 ≡ Some (id, columns) = ap (λ (l : List (RowId × List ℤ)). slice_get l 0) is in
      let entry = subst (λ (o : Option (RowId × List ℤ)). IfSome o (IsEntryInRange row_cmp (start_of table above) (end_of table) m)) head range.1 in
      let place = range_table table above id entry.0 in
      record {
        there = subst (λ t. get (contents_of m) (row_at t id.key) ≡ Some columns) place.0 (get_row m id ∙ entry.1);
        above = place.1;
        least = λ other is_above below. at head place.0 other is_above below (get (contents_of m) (row_at table other)) refl;
      }
    where
      at : slice_get r 0 ≡ Some (id, columns) → id.table ≡ table → (other : ℤ) → IsAbove above other → other <ℤ id.key → (o : Option (List ℤ)) → get (contents_of m) (row_at table other) ≡ o → o ≡ None
      at head same other is_above below None there = refl
      at head same other is_above below (Some others) there =
          let q = row_at table other in
          let within = in_range table above other (fit q others there) is_above in
          let found : IsSome (tree.get row_cmp m q) = ap is_some (sym (get_row m q) ∙ there) in
          let le : is_gt (row_cmp id q) ≡ false = subst (λ (o : Option (RowId × List ℤ)). IfSome o (λ e. IsLeBy row_cmp e.0 q)) head (range.2 q within found) in
          let keys : is_gt (int_cmp id.key other) ≡ false = ap is_gt (sym (same_table table id.key other) ∙ ap (λ t. row_cmp (row_at t id.key) q) (sym same)) ∙ le in
          absurd (above_not (int_cmp id.key other) id.key other (int_ranked id.key other _ refl) keys below)
