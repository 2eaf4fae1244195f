-- What the changes of a record give their rows, and what the record states.
use Rattle.std.proofs.Common.{◌≡◌, ◌∙◌, sym, ap, refl, Bool, true, false, List, [], ◌∷◌, ◌++◌, Option, Some, None, inl, inr}
use Rattle.std.specs.Prelude.{option_to_list}
use Rattle.std.specs.List.{list_all}
use Rattle.std.specs.Option.{option_map_or}
use Rattle.std.proofs.lemmas.Bool.{and_from, and_parts, or_cases, or_left}
use Rattle.std.proofs.lemmas.List.Folds.{list_any-append}
use Rattle.schema.specs.declared.Table.{Table}
use Rattle.schema.specs.declared.RowId.{RowId}
use Rattle.schema.specs.RowId.{same_row}
use Rattle.schema.specs.Rows.{Mark, has_row}
use Rattle.rows.specs.declared.Change.{Change}
use Rattle.rows.specs.Given.{given_parent, given_mark, given_parents, given_marks}
use Rattle.rows.proofs.Apply.{row_is, same_row_itself, has_row-left, has_row-right}
use Rattle.relay.specs.Form.{has_ref, states_given}
use Rattle.relay.specs.Laws.{AcceptableStatesGiven}

-- ---- what changes give, and a list that has it

-- what each of the changes gives, where it gives something
abbrev gathered : (Change → Option RowId) → List Change → List RowId
gathered gives [] = []
gathered gives (change ∷ changes) = option_to_list (gives change) ++ gathered gives changes

-- whether what the change gives, if anything, is in the list
abbrev has_given : (Change → Option RowId) → List RowId → Change → Bool
has_given gives stated change = option_map_or (has_row stated) (gives change) true

has_all : (gives : Change → Option RowId) (changes : List Change) (stated : List RowId) → ((q : RowId) → has_row (gathered gives changes) q ≡ true → has_row stated q ≡ true) →
    list_all (has_given gives stated) changes ≡ true
has_all gives [] stated among = refl
has_all gives (change ∷ changes) stated among =
    and_from (has_given gives stated change) (list_all (has_given gives stated) changes)
    (by (gives change) (λ q is. among q (has_row-left (option_to_list (gives change)) (gathered gives changes) q is)))
    (has_all gives changes stated (λ q is. among q (has_row-right (option_to_list (gives change)) (gathered gives changes) q is)))
  where
    by : (o : Option RowId) → ((q : RowId) → has_row (option_to_list o) q ≡ true → has_row stated q ≡ true) → option_map_or (has_row stated) o true ≡ true
    by None here = refl
    by (Some q) here = here q (or_left (same_row q q) false (same_row_itself q))

is_among : (gives : Change → Option RowId) (changes : List Change) (stated : List RowId) → list_all (has_given gives stated) changes ≡ true →
    (q : RowId) → has_row (gathered gives changes) q ≡ true → has_row stated q ≡ true
is_among gives [] stated all q is = absurd cc
is_among gives (change ∷ changes) stated all q is =
    let parts = and_parts (has_given gives stated change) (list_all (has_given gives stated) changes) all in
    elim (or_cases (has_row (option_to_list (gives change)) q) (has_row (gathered gives changes) q)
    (sym (list_any-append (same_row q) (option_to_list (gives change)) (gathered gives changes)) ∙ is)) [
      | inl here ↦ by (gives change) parts.0 here
      | inr there ↦ is_among gives changes stated parts.1 q there
    ]
  where
    by : (o : Option RowId) → option_map_or (has_row stated) o true ≡ true → has_row (option_to_list o) q ≡ true → has_row stated q ≡ true
    by None h k = absurd cc
    by (Some p) h k =
        elim (or_cases (same_row q p) false k) [
          | inl same ↦ ap (has_row stated) (row_is q p same) ∙ h
          | inr none ↦ absurd cc
        ]

-- ---- parents and marks

parents_gathered : (ts : List Table) (changes : List Change) → given_parents ts changes ≡ gathered (given_parent ts) changes
parents_gathered ts [] = refl
parents_gathered ts (change ∷ changes) = ap (λ l. option_to_list (given_parent ts change) ++ l) (parents_gathered ts changes)

marks_gathered : (ts : List Table) (changes : List Change) → given_marks ts changes ≡ gathered (given_mark ts) changes
marks_gathered ts [] = refl
marks_gathered ts (change ∷ changes) = ap (λ l. option_to_list (given_mark ts change) ++ l) (marks_gathered ts changes)

-- refs that have each parent that the changes give their rows, and marks that have each mark
pub all_have_refs : (ts : List Table) (changes : List Change) (refs : List RowId) → ((q : RowId) → has_row (given_parents ts changes) q ≡ true → has_row refs q ≡ true) →
    list_all (has_ref ts refs) changes ≡ true
all_have_refs ts changes refs among = has_all (given_parent ts) changes refs (λ q is. among q (ap (λ l. has_row l q) (parents_gathered ts changes) ∙ is))

pub all_have_marks : (ts : List Table) (changes : List Change) (marks : List Mark) → ((mark : Mark) → has_row (given_marks ts changes) mark ≡ true → has_row marks mark ≡ true) →
    list_all (states_given ts marks) changes ≡ true
all_have_marks ts changes marks among = has_all (given_mark ts) changes marks (λ q is. among q (ap (λ l. has_row l q) (marks_gathered ts changes) ∙ is))

pub acceptable_states_given : AcceptableStatesGiven
acceptable_states_given ts log new is = record {
  gives_parents = λ q given. is_among (given_parent ts) new.changes new.refs is.refs q (ap (λ l. has_row l q) (sym (parents_gathered ts new.changes)) ∙ given);
  gives_marks = λ mark given. is_among (given_mark ts) new.changes new.marks is.marks mark (ap (λ l. has_row l mark) (sym (marks_gathered ts new.changes)) ∙ given);
}
