use Rattle.std.proofs.Common.{◌≡◌, ◌∙◌, sym, ap, refl, cond, List, [], ◌∷◌, map, Some, None, IsPermutation}
use Rattle.std.specs.FinMap.{get}
use Rattle.std.specs.List.{dedup}
use Rattle.std.specs.List.Sorted.{IsSorted}
use Rattle.std.specs.Map.{keys_of}
use Rattle.std.proofs.lemmas.List.Kept.{IsStrictlySortedBy-dedup}
use Rattle.std.proofs.lemmas.List.Sorted.{list_any-IsPermutation}
use Rattle.schema.specs.declared.RowId.{RowId}
use Rattle.schema.specs.RowId.{row_cmp, row_total, same_row, exact_row}
use Rattle.schema.specs.Rows.{has_row}
use Rattle.schema.proofs.RowMaps.{row_eq, row_eq-same_row}
use Rattle.schema.proofs.Rising.{dedup_same}
use Rattle.rows.specs.Database.{Database}
use Rattle.store_trait.specs.Batch.{IsRising, rows_in}
use Rattle.store_trait.proofs.Batches.{same_batch, rows_in_rise, find-rows_in, find-of_each}
use Rattle.store_trait.proofs.Rising.{sorted_from_keys}
use Rattle.std.proofs.lemmas.List.Filters.{dedup_is}
use Rattle.replica_core.proofs.dispatching.each_once.Goals as goal

keys_of-copies : (db : Database) (ids : List RowId) → keys_of (map (λ id. (id, get db id)) ids) ≡ ids
keys_of-copies db [] = refl
keys_of-copies db (id ∷ ids) = ap (λ l. id ∷ l) (keys_of-copies db ids)

copied_once : (ids sorted : List RowId) (db : Database) → IsPermutation ids sorted → IsSorted row_cmp sorted → map (λ id. (id, get db id)) (dedup row_eq sorted) ≡ rows_in ids db
copied_once ids sorted db moves order =
    let once = dedup row_eq sorted in
    let rises : IsRising (map (λ id. (id, get db id)) once) = sorted_from_keys (map (λ id. (id, get db id)) once)
    (rw (keys_of-copies db once) (IsStrictlySortedBy-dedup row_total (λ x y. row_eq-same_row x y) sorted order)) in
    let same : (q : RowId) → has_row once q ≡ has_row ids q = λ q. dedup_same row_total exact_row row_eq-same_row sorted q ∙ sym (list_any-IsPermutation (same_row q) ids sorted moves) in
    same_batch (map (λ id. (id, get db id)) once) (rows_in ids db) rises (rows_in_rise ids db)
    (λ q. find-of_each (get db) q once ∙ ap (λ b. cond b (Some (get db q)) None) (same q) ∙ sym (find-rows_in ids db q))

pub returns : goal.returns
returns c = λ db.
    ap (map (λ id. (id, get db id))) (dedup_is row_eq c.sort_unstable.new.self.items c.dedup.new.self.items c.dedup.ensures.filtered)
    ∙ copied_once c.args.ids.items c.sort_unstable.new.self.items db c.sort_unstable.ensures.permutation c.sort_unstable.ensures.sorted
