-- The frame law: changes look at no more than what they give their rows, and that is among what they touch.
use Rattle.std.proofs.Common.{◌≡◌, sym, ap, ◌∙◌, refl, inl, inr, true, false, List, [], ◌∷◌, ◌++◌}
use Rattle.std.specs.Prelude.{◌||◌, flat_map}
use Rattle.std.proofs.lemmas.Bool.{cases_Bool, or_parts}
use Rattle.schema.specs.declared.Table.{Table}
use Rattle.schema.specs.declared.RowId.{RowId}
use Rattle.schema.specs.RowId.{same_row}
use Rattle.schema.specs.Rows.{has_row, meets}
use Rattle.rows.specs.declared.Change.{Change}
use Rattle.rows.specs.Step.{kin_of, marks_of}
use Rattle.rows.specs.Database.{Database, writes, kin, marks}
use Rattle.rows.specs.Frame.{SameEffect, LooksOnlyAtItsRows, AppliesBehind}
use Rattle.rows.proofs.Effect.{changes_only_writes, changes_only_marks}
use Rattle.rows.proofs.Apply.{row_is, has_row-left, has_row-right}
use Rattle.rows.proofs.Given.{looks_only_at_given, given_parents_are_kin, given_marks_are_marks}

-- changes that do the same have the same kin and the same marks
pub same_kin : {ts : List Table} {changes : List Change} {before after other : Database} → SameEffect ts changes before after other → kin ts changes other ≡ kin ts changes before
same_kin same = ap (flat_map kin_of) same.same_steps

pub same_marks : {ts : List Table} {changes : List Change} {before after other : Database} → SameEffect ts changes before after other → marks ts changes other ≡ marks ts changes before
same_marks same = ap (flat_map marks_of) same.same_steps

pub looks_only : LooksOnlyAtItsRows
looks_only ts changes before after other h agree holders =
    looks_only_at_given ts changes before after other h (record {
      rows = λ q is. agree q (has_row-left (writes changes) (kin ts changes before) q is);
      parents = λ p is. agree p (has_row-right (writes changes) (kin ts changes before) p (given_parents_are_kin ts changes before after p h is));
      holders = λ mark is. holders mark (given_marks_are_marks ts changes before after mark h is);
    })

-- ---- one list behind another

-- of two sets that do not meet, a row of the second is not in the first
pub not_in_first : (xs ys : List RowId) (q : RowId) → meets xs ys ≡ false → has_row ys q ≡ true → has_row xs q ≡ false
not_in_first [] ys q apart is = refl
not_in_first (x ∷ xs) ys q apart is =
    let parts = or_parts (has_row ys x) (meets xs ys) apart in
    elim (cases_Bool (same_row q x)) [
      | inl same ↦ absurd (cc (sym parts.0 ∙ ap (has_row ys) (sym (row_is q x same)) ∙ is))
      | inr other ↦ ap (λ b. b || has_row xs q) other ∙ not_in_first xs ys q parts.1 is
    ]

pub applies_behind : AppliesBehind
applies_behind ts first second db mid leaves one two apart marks_apart =
    looks_only ts second db leaves mid two
    (λ q is. sym (changes_only_writes ts first db mid q one (not_in_first (writes first) (writes second ++ kin ts second db) q apart is)))
    (λ mark is q. sym (changes_only_marks ts first db mid mark q one (not_in_first (marks ts first db) (marks ts second db) mark marks_apart is)))
