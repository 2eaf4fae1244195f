-- Rows of several transactions, joined into one list in the order of row ids.
use Rattle.std.proofs.Common.{◌≡◌, sym, ap, ◌∙◌, refl, Bool, true, false, cond, List, [], ◌∷◌, ◌++◌, Option, Some, None, IsSome, is_some, ℤ}
use Rattle.std.specs.List.{IsDistinct, AllByRecursion}
use Rattle.std.specs.Map.{keys_of}
use Rattle.std.specs.Option.{option_or}
use Rattle.std.specs.FinMap.{find}
use Rattle.schema.specs.declared.RowId.{RowId}
use Rattle.schema.specs.RowId.{row_cmp, same_row}
use Rattle.schema.proofs.Conflicts.{same_row-symm}
use Rattle.rows.proofs.Apply.{same_row_itself}
use Rattle.store_trait.specs.Batch.{Entry, IsRising, in_order}
use Rattle.store_trait.proofs.Batches.{find-in_order, in_order_rises, same_batch}
use Rattle.overlay.specs.Pending.{Pending, left_at}
use Rattle.overlay.specs.Joining.{joined, first_left, JoinedGoesOn, JoinedHasRows, JoinedRises}

find-append : (es fs : List Entry) (q : RowId) → find row_cmp q (es ++ fs) ≡ option_or (find row_cmp q es) (find row_cmp q fs)
find-append [] fs q = refl
find-append (e ∷ es) fs q =
    elim (same_row q e.0) as (λ b. cond b (Some e.1) (find row_cmp q (es ++ fs)) ≡ option_or (cond b (Some e.1) (find row_cmp q es)) (find row_cmp q fs)) [
      | true ↦ refl
      | false ↦ find-append es fs q
    ]

pub find-joined : (es : List Entry) (pending : Pending) (q : RowId) → find row_cmp q (joined es pending) ≡ option_or (find row_cmp q es) (left_at pending q)
find-joined es pending q = find-in_order (es ++ pending.left) q ∙ find-append es pending.left q

-- lists of rows, put in order before or after they are joined
pub in_order-append : (es fs : List Entry) → in_order (es ++ fs) ≡ in_order (in_order es ++ in_order fs)
in_order-append es fs =
    same_batch (in_order (es ++ fs)) (in_order (in_order es ++ in_order fs)) (in_order_rises (es ++ fs)) (in_order_rises (in_order es ++ in_order fs)) (λ q.
    find-in_order (es ++ fs) q ∙ find-append es fs q
    ∙ (λ i. option_or (sym (find-in_order es q) i) (sym (find-in_order fs q) i))
    ∙ sym (find-append (in_order es) (in_order fs) q) ∙ sym (find-in_order (in_order es ++ in_order fs) q))

-- what rises is in order
pub in_order-rising : (es : List Entry) → IsRising es → in_order es ≡ es
in_order-rising es rising = same_batch (in_order es) es (in_order_rises es) rising (find-in_order es)

-- ---- no row twice

others_found : (q : RowId) (e : Entry) (es : List Entry) → IsSome (find row_cmp q es) → IsSome (find row_cmp q (e ∷ es))
others_found q e es is = by (same_row q e.0)
  where
    by : (b : Bool) → IsSome (cond b (Some e.1) (find row_cmp q es))
    by true = refl
    by false = is

not_same : (b : Bool) {X : Type 0} (x : X) (rest : Option X) → cond b (Some x) rest ≡ None → (b ≡ false) × (rest ≡ None)
not_same true x rest h = cc
not_same false x rest h = (refl, h)

apart_from : (x : RowId) (fs : List Entry) → ((q : RowId) → IsSome (find row_cmp q fs) → same_row q x ≡ false) → AllByRecursion (λ y. same_row x y ≡ false) (keys_of fs)
apart_from x [] h = tt
apart_from x (f ∷ fs) h =
    let here : same_row f.0 x ≡ false = h f.0 (ap (λ b. is_some (cond b (Some f.1) (find row_cmp f.0 fs))) (same_row_itself f.0)) in
    (same_row-symm x f.0 ∙ here, apart_from x fs (λ q is. h q (others_found q f fs is)))

apart_from_both : (x : RowId) (es fs : List Entry) → AllByRecursion (λ y. same_row x y ≡ false) (keys_of es) → AllByRecursion (λ y. same_row x y ≡ false) (keys_of fs) →
    AllByRecursion (λ y. same_row x y ≡ false) (keys_of (es ++ fs))
apart_from_both x [] fs own other = other
apart_from_both x (e ∷ es) fs own other = (own.0, apart_from_both x es fs own.1 other)

pub distinct-append : (es fs : List Entry) → IsDistinct same_row (keys_of es) → IsDistinct same_row (keys_of fs) → ((q : RowId) → IsSome (find row_cmp q fs) → find row_cmp q es ≡ None) →
    IsDistinct same_row (keys_of (es ++ fs))
unfolding IsDistinct
distinct-append [] fs own other none = other
distinct-append (e ∷ es) fs own other none = (
  apart_from_both e.0 es fs own.0 (apart_from e.0 fs (λ q is. (not_same (same_row q e.0) e.1 (find row_cmp q es) (none q is)).0)),
  distinct-append es fs own.1 other (λ q is. (not_same (same_row q e.0) e.1 (find row_cmp q es) (none q is)).1),
)

pub distinct-none : IsDistinct same_row (keys_of {X = Option (List ℤ)} [])
unfolding IsDistinct
distinct-none = tt

-- a row of the second list is not in the first, where it is not in the first put in order
pub not_found_yet : (es fs own : List Entry) (pending : Pending) → in_order es ≡ own → in_order fs ≡ pending.left → ((q : RowId) → IsSome (left_at pending q) → find row_cmp q own ≡ None) →
    (q : RowId) → IsSome (find row_cmp q fs) → find row_cmp q es ≡ None
not_found_yet es fs own pending own_is left_is none q is =
    sym (find-in_order es q) ∙ ap (find row_cmp q) own_is
    ∙ none q (ap is_some (ap (find row_cmp q) (sym left_is) ∙ find-in_order fs q) ∙ is)

-- ---- several transactions

pub joined-more : JoinedGoesOn
joined-more entries [] pending = refl
joined-more entries (first ∷ pendings) pending = joined-more (joined entries first) pendings pending

none_behind : {X : Type 0} (o : Option X) → o ≡ option_or o None
none_behind None = refl
none_behind (Some x) = refl

or_of_or : {X : Type 0} (a b c : Option X) → option_or (option_or a b) c ≡ option_or a (option_or b c)
or_of_or None b c = refl
or_of_or (Some x) b c = refl

pub find-joined_all : JoinedHasRows
find-joined_all entries [] q = none_behind (find row_cmp q entries)
find-joined_all entries (pending ∷ pendings) q =
    find-joined_all (joined entries pending) pendings q
    ∙ ap (λ o. option_or o (first_left pendings q)) (find-joined entries pending q)
    ∙ or_of_or (find row_cmp q entries) (left_at pending q) (first_left pendings q)

pub joined_all_rises : JoinedRises
joined_all_rises entries [] rising = rising
joined_all_rises entries (pending ∷ pendings) rising = joined_all_rises (joined entries pending) pendings (in_order_rises (entries ++ pending.left))
