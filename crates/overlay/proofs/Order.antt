-- The rows of an `IndexMap`, and the same in the order of row ids.
use Rattle.std.proofs.Common.{true≢false, Result, Ok, Err, IsOk, OnOk, ◌≡◌, IsPermutation, IsSortedByKey, sym, subst, ◌∙◌, cond, List, ℤ, Option, Some}
use Rattle.std.proofs.lemmas.Cmp.{on_equiv, and_equiv, nat_eq_equiv, int_eq_equiv}
use Rattle.std.proofs.lemmas.List.Sorted.{IsPermutation-map}
use Rattle.std.proofs.lemmas.Map.Keys.{IsDistinct-IsPermutation}
use Rattle.std.specs.Cmp.{IsEquivalence}
use Rattle.std.specs.List.{IsDistinct}
use Rattle.std.specs.Map.{lookup, keys_of}
use Rattle.std.specs.FinMap.{put}
use Rattle.std.specs.FinMap.Entries.{find-put}
use Rattle.indexmap.specs.IndexMap.{IndexMap, Updates}
use Rattle.indexmap.proofs.MapLemmas.{lookup_permutation}
use Rattle.schema.specs.declared.RowId.{RowId}
use Rattle.schema.proofs.RowMaps.{row_eq, row_eq-same_row, turned, lookup-find}
use Rattle.schema.specs.RowId.{row_cmp, same_row, row_total}
use Rattle.store_trait.specs.Batch.{Entry, IsRising, in_order}
use Rattle.store_trait.proofs.Batches.{find-in_order, in_order_rises, put_rises, same_batch}
use Rattle.store_trait.proofs.Sorting.{sorted_rows_rise}

-- a key that an insert writes is put in its place
pub in_order-updates : (es fs : List Entry) (k : RowId) (left : Option (List ℤ)) → ((q : RowId) → lookup (row_eq q) fs ≡ cond (row_eq k q) (Some left) (lookup (row_eq q) es)) →
    in_order fs ≡ put row_cmp k left (in_order es)
in_order-updates es fs k left h =
    same_batch (in_order fs) (put row_cmp k left (in_order es)) (in_order_rises fs) (put_rises k left (in_order es) (in_order_rises es)) (λ q.
    find-in_order fs q ∙ sym (lookup-find fs q) ∙ h q
    ∙ (λ i. cond (turned k q i) (Some left) ((lookup-find es q ∙ sym (find-in_order es q)) i))
    ∙ sym (find-put row_cmp row_total q k left (in_order es)))

row_eq_equiv : IsEquivalence row_eq
row_eq_equiv = and_equiv (on_equiv (λ (r : RowId). r.table) nat_eq_equiv) (on_equiv (λ (r : RowId). r.key) int_eq_equiv)

-- rows of which none comes twice, once they are sorted
pub sorted-in_order : (es sorted : List Entry) → IsDistinct same_row (keys_of es) → IsPermutation es sorted → IsSortedByKey (λ (e : Entry). e.0) row_cmp sorted →
    IsRising sorted × (sorted ≡ in_order es)
sorted-in_order es sorted distinct moves order =
    let apart : IsDistinct row_eq (keys_of es) = subst (λ eq. IsDistinct eq (keys_of es)) (λ i a b. sym (row_eq-same_row a b) i) distinct in
    let still : IsDistinct row_eq (keys_of sorted) = IsDistinct-IsPermutation row_eq row_eq_equiv.symm (keys_of es) (keys_of sorted) (IsPermutation-map (λ (e : Entry). e.0) es sorted moves) apart in
    let up : IsRising sorted = sorted_rows_rise es sorted distinct moves order in (
      up,
      same_batch sorted (in_order es) up (in_order_rises es) (λ q.
          sym (lookup-find sorted q) ∙ lookup_permutation row_eq_equiv es sorted moves still (row_eq q) (row_eq_equiv.congr q)
          ∙ lookup-find es q ∙ sym (find-in_order es q)),
    )

-- where the insert could not fail, the key is put in its place
pub in_order-inserted : {S T E : Type 0} (m n : IndexMap RowId (Option (List ℤ)) S) (r : Result T E) (k : RowId) (left : Option (List ℤ)) → IsOk r → OnOk r (Updates row_eq m n k (Some left)) →
    in_order n.entries ≡ put row_cmp k left (in_order m.entries)
in_order-inserted m n (Ok x) k left h is = in_order-updates m.entries n.entries k left is.0
in_order-inserted m n (Err e) k left h is = absurd (true≢false (sym h))
