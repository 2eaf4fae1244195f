-- Batches put one after another.
use Rattle.std.proofs.Common.{◌≡◌, ◌∙◌, sym, ap, ℕ, ◌+◌, ◌<◌, List, [], ◌∷◌, ◌++◌, take, length, get_or, Result, Ok, Err, is_err, OnOk, false, true≢false}
use Rattle.std.proofs.lemmas.List.{take_more}
use Rattle.rows.specs.Database.{Database}
use Rattle.store_trait.specs.Batch.{Entry, put_batch, put_batches}
use Rattle.store_trait.proofs.Batches.{put_batches-append}

-- what a call ensures where it is not refused
pub not_refused : {T E P : Type 0} (r : Result T E) → is_err r ≡ false → OnOk r P → P
not_refused (Ok x) fine h = h
not_refused (Err e) fine h = absurd (true≢false fine)

-- the next batch of the list
pub put_batches-take : (batches : List (List Entry)) (i : ℕ) (batch : List Entry) (first now next : Database) → i < length batches → batch ≡ get_or batches i batch →
    now ≡ put_batches (take i batches) first → next ≡ put_batch batch now → next ≡ put_batches (take (i + 1) batches) first
put_batches-take batches i batch first now next within here so_far is =
    is ∙ ap (put_batch batch) so_far
    ∙ sym (put_batches-append (take i batches) (batch ∷ []) first)
    ∙ ap (λ b. put_batches (take i batches ++ b ∷ []) first) here
    ∙ ap (λ l. put_batches l first) (sym (take_more batches i batch within))
