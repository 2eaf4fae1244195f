-- Lists of row ids as sets: the test of two of them.
use Rattle.std.proofs.Common.{◌≡◌, sym, ap, ◌∙◌, refl, true, List, [], ◌∷◌, inl, inr, true≢false}
use Rattle.std.specs.List.{list_all}
use Rattle.std.proofs.lemmas.Bool.{and_from, and_parts, or_cases, or_left, or_right}
use Rattle.schema.specs.declared.RowId.{RowId}
use Rattle.schema.specs.RowId.{same_row}
use Rattle.schema.specs.Rows.{has_row}
use Rattle.schema.proofs.Telling.{both_or_none}
use Rattle.rows.proofs.Apply.{row_is, same_row_itself}
use Rattle.executor.specs.Laws.{TellsSets}

in_other : (xs ys : List RowId) (q : RowId) → list_all (has_row ys) xs ≡ true → has_row xs q ≡ true → has_row ys q ≡ true
in_other [] ys q all is = absurd (true≢false (sym is))
in_other (x ∷ xs) ys q all is =
    let parts = and_parts (has_row ys x) (list_all (has_row ys) xs) all in
    elim (or_cases (same_row q x) (has_row xs q) is) [
      | inl here ↦ ap (has_row ys) (row_is q x here) ∙ parts.0
      | inr there ↦ in_other xs ys q parts.1 there
    ]

all_in : (xs ys : List RowId) → ((q : RowId) → has_row xs q ≡ true → has_row ys q ≡ true) → list_all (has_row ys) xs ≡ true
all_in [] ys sub = refl
all_in (x ∷ xs) ys sub =
    and_from (has_row ys x) (list_all (has_row ys) xs) (sub x (or_left (same_row x x) (has_row xs x) (same_row_itself x)))
    (all_in xs ys (λ q is. sub q (or_right (same_row q x) (has_row xs q) is)))

pub tells_sets : TellsSets
tells_sets xs ys = (
  λ h. (let parts = and_parts (list_all (has_row ys) xs) (list_all (has_row xs) ys) h in
      λ q. both_or_none (has_row xs q) (has_row ys q) (in_other xs ys q parts.0) (in_other ys xs q parts.1)),
  λ same. and_from (list_all (has_row ys) xs) (list_all (has_row xs) ys)
      (all_in xs ys (λ q is. sym (same q) ∙ is)) (all_in ys xs (λ q is. same q ∙ is)),
)
