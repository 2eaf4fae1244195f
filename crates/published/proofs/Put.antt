-- Putting one more entry into a batch in order.
use Rattle.std.proofs.Common.{◌≡◌, ◌≢◌, ℕ, ◌+◌, ◌<◌, length, get_or, drop, add-one, drop-cons, ℤ, Bool, true, false, cond, List, [], ◌∷◌, refl, sym, ap, subst, ◌∙◌, Option}
use Rattle.std.specs.List.Sorted.{IsStrictlySortedBy}
use Rattle.std.specs.Map.{keys_of}
use Rattle.std.specs.BTreeMap.{insert_entry, is_at}
use Rattle.std.specs.FinMap.{get, same_map}
use Rattle.std.specs.Ordering.{match_ordering, is_eq}
use Rattle.std.specs.declared.cmp.Ordering.TheVariants.{Less, Equal, Greater}
use Rattle.std.specs.Cmp.{eq_by_cmp_equiv, tied_itself}
use Rattle.std.proofs.lemmas.Map.{NonePasses}
use Rattle.std.proofs.lemmas.Map.Keys.{sorted_tail, IsDistinct-from_sorted}
use Rattle.std.proofs.lemmas.Map.Entries.{none_past_head, none_below_head}
use Rattle.schema.specs.declared.RowId.{RowId}
use Rattle.schema.specs.RowId.{row_cmp, same_row, exact_row, row_total}
use Rattle.rows.specs.Database.{Database}
use Rattle.store_trait.specs.Batch.{Entry, put_row, put_batch}
use Rattle.rows.proofs.Apply.{get-put_row, row_is}

again : {A : Type 0} (b : Bool) (x y z : A) → cond b x z ≡ cond b x (cond b y z)
again true x y z = refl
again false x y z = refl

-- the later of two entries of a row counts
pub put_row_again : (db : Database) (k : RowId) (v w : Option (List ℤ)) → put_row db k v ≡ put_row (put_row db k w) k v
put_row_again db k v w = same_map row_total exact_row _ _ (λ q.
    get-put_row db k q v ∙ again (same_row q k) v w (get db q)
    ∙ sym (get-put_row (put_row db k w) k q v ∙ ap (cond (same_row q k) v) (get-put_row db k q w)))

swapped : {A : Type 0} (a b : Bool) (x y z : A) → (a ≡ true → b ≡ true → ⊥) → cond a x (cond b y z) ≡ cond b y (cond a x z)
swapped true true x y z apart = absurd (apart refl refl)
swapped true false x y z apart = refl
swapped false b x y z apart = refl

-- entries of different rows may change places
put_row_swapped : (db : Database) (k j : RowId) (v w : Option (List ℤ)) → k ≢ j → put_row (put_row db k v) j w ≡ put_row (put_row db j w) k v
put_row_swapped db k j v w apart = same_map row_total exact_row _ _ (λ q.
    get-put_row (put_row db k v) j q w ∙ ap (cond (same_row q j) w) (get-put_row db k q v)
    ∙ swapped (same_row q j) (same_row q k) w v (get db q) (λ a b. apart (sym (row_is q k b) ∙ row_is q j a))
    ∙ sym (get-put_row (put_row db j w) k q v ∙ ap (cond (same_row q k) v) (get-put_row db j q w)))

apart : (a b : RowId) → same_row a b ≡ false → a ≢ b
apart a b other same = let alike : same_row a b ≡ true = subst (λ (c : RowId). same_row a c ≡ true) same (ap is_eq (tied_itself row_total a)) in cc

-- an entry may go behind others that are not of its row
put_past : (es : List Entry) (db : Database) (k : RowId) (v : Option (List ℤ)) → NonePasses (is_at (row_cmp k)) es → put_batch es (put_row db k v) ≡ put_row (put_batch es db) k v
put_past [] db k v none = refl
put_past (e ∷ es) db k v none =
    ap (put_batch es) (put_row_swapped db k e.0 v e.1 (apart k e.0 none.0)) ∙ put_past es (put_row db e.0 e.1) k v none.1

pub put_inserted : (es : List Entry) (db : Database) (k : RowId) (v : Option (List ℤ)) → IsStrictlySortedBy row_cmp (keys_of es)
    → put_batch (insert_entry row_cmp es k v) db ≡ put_row (put_batch es db) k v
put_inserted [] db k v sorted = refl
put_inserted (e ∷ es) db k v sorted =
    elim (row_cmp k e.0) as (λ o. row_cmp k e.0 ≡ o
    → put_batch (match_ordering o ((k, v) ∷ e ∷ es) ((e.0, v) ∷ es) (e ∷ insert_entry row_cmp es k v)) db ≡ put_row (put_batch es (put_row db e.0 e.1)) k v) [
      | Less ↦ λ less. put_past (e ∷ es) db k v (none_below_head row_total k e es sorted less)
      | Equal ↦ λ equal.
          let same : k ≡ e.0 = exact_row k e.0 equal in
          let none = none_past_head (eq_by_cmp_equiv row_total) k e es (IsDistinct-from_sorted row_cmp (keys_of (e ∷ es)) sorted) (ap is_eq equal) in
          ap (λ (j : RowId). put_batch es (put_row db j v)) (sym same)
          ∙ ap (put_batch es) (put_row_again db k v e.1)
          ∙ put_past es (put_row db k e.1) k v none
          ∙ ap (λ (j : RowId). put_row (put_batch es (put_row db j e.1)) k v) same
      | Greater ↦ λ greater. put_inserted es (put_row db e.0 e.1) k v (sorted_tail row_cmp e.0 (keys_of es) sorted)
    ] refl

-- one more entry of a batch is put
pub put_next : (entries before after : List Entry) (i : ℕ) (e : Entry) (db left : Database) → i < length entries → e ≡ get_or entries i e
    → IsStrictlySortedBy row_cmp (keys_of before) → after ≡ insert_entry row_cmp before e.0 e.1
    → put_batch (drop i entries) (put_batch before db) ≡ left → put_batch (drop (i + 1) entries) (put_batch after db) ≡ left
put_next entries before after i e db left more at sorted is so_far =
    let head : drop i entries ≡ e ∷ drop (i + 1) entries = rw (add-one, at) (drop-cons entries i e more) in
    ap (λ m. put_batch (drop (i + 1) entries) (put_batch m db)) is
    ∙ ap (put_batch (drop (i + 1) entries)) (put_inserted before db e.0 e.1 sorted)
    ∙ ap (λ es. put_batch es (put_batch before db)) (sym head)
    ∙ so_far
