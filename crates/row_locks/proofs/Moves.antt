-- The counts of rows move as what one session holds does.
use Rattle.std.proofs.Common.{◌≡◌, ◌∙◌, sym, ap, refl, ℕ, zero, suc, ◌+◌, ◌-◌, ◌<◌, ◌≤◌, length, take, get_or, ◌⊎◌, arith, is_some, cond, Option, Some, None, List, [], ◌∷◌, ◌++◌, map, inl, inr}
use Rattle.std.specs.FinMap.{get, insert, remove, len, get-insert, get-remove, get-empty, len-remove, empty_of_len}
use Rattle.std.proofs.lemmas.Bool.{cases_Bool}
use Rattle.std.proofs.lemmas.List.{take_more, map-append}
use Rattle.schema.specs.declared.RowId.{RowId}
use Rattle.schema.specs.RowId.{row_cmp, same_row, row_total}
use Rattle.row_locks.specs.declared.Mode.{Mode}
use Rattle.row_locks.specs.Mode.{weight, stronger}
use Rattle.row_locks.specs.Locks.{Holding, also_held}
use Rattle.row_locks.specs.Tally.{Counts, count_at}
use Rattle.row_locks.specs.Tied.{MovesAlike}
use Rattle.schema.proofs.RowMaps.{row_is}

pub moves_on : (a b c : Holding) (k l m : Counts) → MovesAlike a k b l → MovesAlike b l c m → MovesAlike a k c m
moves_on a b c k l m first then row mode = joined _ _ _ _ _ _ (first row mode) (then row mode)
  where
    joined : (wa wb wc nk nl nm : ℕ) → nl + wa ≡ nk + wb → nm + wb ≡ nl + wc → nm + wa ≡ nk + wc
    joined wa wb wc nk nl nm e f = omega arith

-- one row's counts moved with what the session holds of it
one_row : (held held' : Holding) (counts counts' : Counts) (row : RowId) (was now : Option Mode) → get held row ≡ was → ((q : RowId) → get held' q ≡ cond (same_row q row) now (get held q)) →
    ((q : RowId) (mode : Mode) → count_at counts' q mode + cond (same_row q row) (weight was mode) 0 ≡ count_at counts q mode + cond (same_row q row) (weight now mode) 0) →
    MovesAlike held counts held' counts'
one_row held held' counts counts' row was now this gets sums q mode =
    elim (cases_Bool (same_row q row)) [
      | inl same ↦
          let before : weight (get held q) mode ≡ weight was mode = ap (λ r. weight (get held r) mode) (row_is q row same) ∙ ap (λ o. weight o mode) this in
          let after : weight (get held' q) mode ≡ weight now mode = ap (λ o. weight o mode) (gets q ∙ ap (λ b. cond b now (get held q)) same) in
          rw (before, after) (rw same at (sums q mode))
      | inr apart ↦
          let after : weight (get held' q) mode ≡ weight (get held q) mode = ap (λ o. weight o mode) (gets q ∙ ap (λ b. cond b now (get held q)) apart) in
          rw after (alike _ _ _ (rw apart at (sums q mode)))
    ]
  where
    alike : (n n' w : ℕ) → n' + 0 ≡ n + 0 → n' + w ≡ n + w
    alike n n' w e = omega arith

pub moves-set : (held : Holding) (counts counts' : Counts) (row : RowId) (was : Option Mode) (now : Mode) → was ≡ get held row →
    ((q : RowId) (mode : Mode) → count_at counts' q mode + cond (same_row q row) (weight was mode) 0 ≡ count_at counts q mode + cond (same_row q row) (weight (Some now) mode) 0) →
    MovesAlike held counts (insert held row now) counts'
moves-set held counts counts' row was now this sums =
    one_row held (insert held row now) counts counts' row was (Some now) (sym this) (get-insert row_total held row now) sums

pub moves-removed : (held : Holding) (counts counts' : Counts) (row : RowId) (was : Mode) → get held row ≡ Some was →
    ((q : RowId) (mode : Mode) → count_at counts' q mode + cond (same_row q row) (weight (Some was) mode) 0 ≡ count_at counts q mode + cond (same_row q row) (weight None mode) 0) →
    MovesAlike held counts (remove held row) counts'
moves-removed held counts counts' row was this sums =
    one_row held (remove held row) counts counts' row (Some was) None this (get-remove row_total held row) sums

-- a row less
pub fewer : (held : Holding) (row : RowId) (was : Mode) → get held row ≡ Some was → len (remove held row) + 1 ≤ len held
fewer held row was there =
    let left : len (remove held row) ≡ cond (is_some (get held row)) (len held - 1) (len held) = len-remove row_total held row in
    let less : len (remove held row) ≡ len held - 1 = left ∙ ap (λ o. cond (is_some o) (len held - 1) (len held)) there in
    elim (zero_or_more (len held)) [
      | inl none ↦
          let gone : get held row ≡ None = ap (λ h. get h row) (empty_of_len held none) ∙ get-empty row_cmp row in
          cc
      | inr some ↦ omega arith
    ]
  where
    zero_or_more : (n : ℕ) → (n ≡ 0) ⊎ (1 ≤ n)
    zero_or_more zero = inl refl
    zero_or_more (suc n) = inr (omega arith)

-- the next lock of a list is taken behind those before it
pub also_held-push : (held : Holding) (locks : List (RowId × Mode)) (lock : RowId × Mode) →
    also_held held (locks ++ lock ∷ []) ≡ insert (also_held held locks) lock.0 (stronger (get (also_held held locks) lock.0) lock.1)
also_held-push held [] lock = refl
also_held-push held (first ∷ locks) lock = also_held-push (insert held first.0 (stronger (get held first.0) first.1)) locks lock

pub also_held-next : {X : Type 0} (lock : X → RowId × Mode) (held now now' : Holding) (xs : List X) (i : ℕ) (d : X) → i < length xs → now ≡ also_held held (map lock (take i xs)) →
    now' ≡ insert now (lock (get_or xs i d)).0 (stronger (get now (lock (get_or xs i d)).0) (lock (get_or xs i d)).1) → now' ≡ also_held held (map lock (take (i + 1) xs))
also_held-next lock held now now' xs i d within was is =
    let x = lock (get_or xs i d) in
    is ∙ ap (λ h. insert h x.0 (stronger (get h x.0) x.1)) was
    ∙ sym (also_held-push held (map lock (take i xs)) x)
    ∙ ap (also_held held) (sym (ap (map lock) (take_more xs i d within) ∙ map-append lock (take i xs) (get_or xs i d ∷ [])))
