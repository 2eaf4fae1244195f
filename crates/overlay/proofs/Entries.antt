-- Entries of which no two are of one row, and tests that they pass.
use Rattle.std.proofs.Common.{◌≡◌, ◌∙◌, sym, ap, refl, Bool, false, List, [], ◌∷◌, None}
use Rattle.std.specs.List.{IsDistinct, AllByRecursion, list_any}
use Rattle.std.specs.Map.{keys_of}
use Rattle.std.specs.FinMap.{find}
use Rattle.std.proofs.lemmas.Bool.{cond-false}
use Rattle.schema.specs.declared.RowId.{RowId}
use Rattle.schema.specs.RowId.{row_cmp, same_row}
use Rattle.schema.proofs.Telling.{both_or_none}
pub use Rattle.rows.proofs.Entries.{AreOnce, once_from_sorted, found_any, any_found}
use Rattle.store_trait.specs.Batch.{Entry, in_order}
use Rattle.store_trait.proofs.Batches.{find-in_order, in_order_rises}
use Rattle.overlay.specs.Pending.{Pending}

none_of_apart : {X : Type 0} (x : RowId) (es : List (RowId × X)) → AllByRecursion (λ y. same_row x y ≡ false) (keys_of es) → find row_cmp x es ≡ None
none_of_apart x [] h = refl
none_of_apart x (e ∷ es) h = cond-false _ _ _ h.0 ∙ none_of_apart x es h.1

pub once_from_distinct : {X : Type 0} (es : List (RowId × X)) → IsDistinct same_row (keys_of es) → AreOnce es
unfolding IsDistinct
once_from_distinct [] h = tt
once_from_distinct (e ∷ es) h = (none_of_apart e.0 es h.0, once_from_distinct es h.1)

-- entries pass a test in any order
any_in_order : (test : Entry → Bool) (es : List Entry) → IsDistinct same_row (keys_of es) → list_any test es ≡ list_any test (in_order es)
any_in_order test es distinct =
    both_or_none (list_any test es) (list_any test (in_order es))
    (λ h. let f = found_any test es (once_from_distinct es distinct) h in any_found test (in_order es) f.0 f.1 (find-in_order es f.0 ∙ f.2) f.3)
    (λ h. let f = found_any test (in_order es) (once_from_sorted (in_order es) (in_order_rises es)) h in any_found test es f.0 f.1 (sym (find-in_order es f.0) ∙ f.2) f.3)

-- so the rows that a transaction changed are told, however they lie
pub any_left : (test : Entry → Bool) (es : List Entry) (pending : Pending) (answer : Bool) → in_order es ≡ pending.left → IsDistinct same_row (keys_of es) → answer ≡ list_any test es →
    answer ≡ list_any test pending.left
any_left test es pending answer left_is distinct is = is ∙ any_in_order test es distinct ∙ ap (list_any test) left_is
