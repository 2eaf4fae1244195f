-- The effect of a list of changes, from what one change does. Each law is by induction over the list.
use Rattle.std.proofs.Common.{◌≡◌, sym, ap, subst, ◌∙◌, refl, inl, inr, true, false, cond, List, [], ◌∷◌, ◌++◌, ℤ, Option, Some, None, Ok}
use Rattle.std.specs.Prelude.{option_and_then, flat_map}
use Rattle.std.specs.Option.{option_map_or}
use Rattle.std.specs.Result.{result_ok}
use Rattle.std.specs.FinMap.{get, same_map}
use Rattle.std.proofs.lemmas.Bool.{cases_Bool, or_parts}
use Rattle.std.proofs.lemmas.List.Folds.{list_any-append}
use Rattle.std.proofs.lemmas.List.Concat.{flat_map-append}
use Rattle.std.proofs.lemmas.Option.{option_and_then_some, same_Some}
use Rattle.schema.specs.declared.Table.{Table}
use Rattle.schema.specs.declared.RowId.{RowId}
use Rattle.schema.specs.RowId.{same_row, exact_row, row_total}
use Rattle.schema.specs.Rows.{has_row}
use Rattle.rows.specs.declared.Change.{Change}
use Rattle.rows.specs.Change.{changed}
use Rattle.rows.specs.declared.step.Step.{Step}
use Rattle.rows.specs.Step.{kin_of, marks_of}
use Rattle.rows.specs.Database.{Database, target, writes, parent_in, mark_in, apply, effect, step_between, steps, kin, marks, NoValueTwice, ChildrenHaveParents}
use Rattle.rows.specs.Frame.{ChangesOnlyWrites, ChangesOnlyMarks}
use Rattle.rows.specs.Effect.{row_after, WritesOfJoined, EffectOfJoined, StepsOfJoined, KinOfJoined, MarksOfJoined, RowAfterJoined, EachRowIsLeft}
use Rattle.rows.specs.Effect.{EffectIsItsRows, ValuesStayApart, ChildrenKeepParents}
use Rattle.rows.proofs.Apply.{apply_stays, apply_changes, apply_keeps_parents, row_is, has_row-left, has_row-right}
use Rattle.rows.proofs.Values.{apply_keeps_marks, apply_keeps_apart}

-- the effect of a list of changes is that of the first, and then that of the others
pub effect_first : (ts : List Table) (change : Change) (changes : List Change) (before after : Database) → effect ts (change ∷ changes) before ≡ Some after →
    (mid : Database) × (apply ts change before ≡ Some mid) × (effect ts changes mid ≡ Some after)
effect_first ts change changes before after h = option_and_then_some (effect ts changes) (apply ts change before) after h (λ mid one rest. (mid, one, rest))

pub effect_then : (ts : List Table) (change : Change) (changes : List Change) (before mid : Database) → apply ts change before ≡ Some mid → effect ts (change ∷ changes) before ≡ effect ts changes mid
effect_then ts change changes before mid one = ap (option_and_then (effect ts changes)) one

pub steps_then : (ts : List Table) (change : Change) (changes : List Change) (before mid : Database) → apply ts change before ≡ Some mid →
    steps ts (change ∷ changes) before ≡ step_between ts change before mid ∷ steps ts changes mid
steps_then ts change changes before mid one = ap (λ o. option_map_or (λ after. step_between ts change before after ∷ steps ts changes after) o []) one

-- so is what is read off their steps, as their kin and their marks
pub read_then : {X : Type 0} (f : Step → List X) (ts : List Table) (change : Change) (changes : List Change) (before mid : Database) → apply ts change before ≡ Some mid →
    flat_map f (steps ts (change ∷ changes) before) ≡ f (step_between ts change before mid) ++ flat_map f (steps ts changes mid)
read_then f ts change changes before mid one = ap (flat_map f) (steps_then ts change changes before mid one)

pub kin_then : (ts : List Table) (change : Change) (changes : List Change) (before mid : Database) → apply ts change before ≡ Some mid →
    kin ts (change ∷ changes) before ≡ parent_in ts before (target change) ++ parent_in ts mid (target change) ++ kin ts changes mid
kin_then = read_then kin_of

-- the rows of the first step are among those of all, and so are those of the others
pub read_first : (f : Step → List RowId) (ts : List Table) (change : Change) (changes : List Change) (before mid : Database) (q : RowId) → apply ts change before ≡ Some mid →
    has_row (f (step_between ts change before mid)) q ≡ true → has_row (flat_map f (steps ts (change ∷ changes) before)) q ≡ true
read_first f ts change changes before mid q one is =
    ap (λ l. has_row l q) (read_then f ts change changes before mid one) ∙ has_row-left (f (step_between ts change before mid)) (flat_map f (steps ts changes mid)) q is

pub read_behind : (f : Step → List RowId) (ts : List Table) (change : Change) (changes : List Change) (before mid : Database) (q : RowId) → apply ts change before ≡ Some mid →
    has_row (flat_map f (steps ts changes mid)) q ≡ true → has_row (flat_map f (steps ts (change ∷ changes) before)) q ≡ true
read_behind f ts change changes before mid q one is =
    ap (λ l. has_row l q) (read_then f ts change changes before mid one) ∙ has_row-right (f (step_between ts change before mid)) (flat_map f (steps ts changes mid)) q is

pub changes_only_writes : ChangesOnlyWrites
changes_only_writes ts [] before after q h other = ap (λ (m : Database). get m q) (sym (same_Some before after h))
changes_only_writes ts (change ∷ changes) before after q h other =
    let first = effect_first ts change changes before after h in
    let apart = or_parts (same_row q (target change)) (has_row (writes changes) q) other in
    changes_only_writes ts changes first.0 after q first.2 apart.1 ∙ apply_stays ts change before first.0 q first.1 apart.0

pub changes_only_marks : ChangesOnlyMarks
changes_only_marks ts [] before after mark q h other = ap (λ (m : Database). has_row (mark_in ts m q) mark) (sym (same_Some before after h))
changes_only_marks ts (change ∷ changes) before after mark q h other =
    let first = effect_first ts change changes before after h in
    let one = marks_of (step_between ts change before first.0) in
    let rest = marks ts changes first.0 in
    let apart = or_parts (has_row one mark) (has_row rest mark) (sym (list_any-append (same_row mark) one rest)
    ∙ ap (λ l. has_row l mark) (sym (read_then marks_of ts change changes before first.0 first.1)) ∙ other) in
    changes_only_marks ts changes first.0 after mark q first.2 apart.1 ∙ apply_keeps_marks ts change before first.0 mark q first.1 apart.0

pub writes_joined : WritesOfJoined
writes_joined [] ys = refl
writes_joined (change ∷ xs) ys = ap (λ l. target change ∷ l) (writes_joined xs ys)

pub effect_joined : EffectOfJoined
effect_joined ts [] ys db = refl
effect_joined ts (change ∷ xs) ys db =
    elim (apply ts change db) as (λ o. option_and_then (effect ts (xs ++ ys)) o ≡ option_and_then (effect ts ys) (option_and_then (effect ts xs) o)) [
      | None ↦ refl
      | Some mid ↦ effect_joined ts xs ys mid
    ]

pub steps_joined : StepsOfJoined
steps_joined ts [] ys db mid h = ap (steps ts ys) (same_Some db mid h)
steps_joined ts (change ∷ xs) ys db mid h =
    let first = effect_first ts change xs db mid h in
    steps_then ts change (xs ++ ys) db first.0 first.1
    ∙ ap (λ l. step_between ts change db first.0 ∷ l) (steps_joined ts xs ys first.0 mid first.2)
    ∙ ap (λ l. l ++ steps ts ys mid) (sym (steps_then ts change xs db first.0 first.1))

pub kin_joined : KinOfJoined
kin_joined ts xs ys db mid h = ap (flat_map kin_of) (steps_joined ts xs ys db mid h) ∙ flat_map-append kin_of (steps ts xs db) (steps ts ys mid)

pub marks_joined : MarksOfJoined
marks_joined ts xs ys db mid h = ap (flat_map marks_of) (steps_joined ts xs ys db mid h) ∙ flat_map-append marks_of (steps ts xs db) (steps ts ys mid)

pub row_after_joined : RowAfterJoined
row_after_joined [] ys q row = refl
row_after_joined (change ∷ xs) ys q row =
    elim (same_row q (target change)) as (λ b. cond b (option_and_then (row_after (xs ++ ys) q) (result_ok (changed change row))) (row_after (xs ++ ys) q row)
    ≡ option_and_then (row_after ys q) (cond b (option_and_then (row_after xs q) (result_ok (changed change row))) (row_after xs q row))) [
      | true ↦ elim (result_ok (changed change row)) as (λ o. option_and_then (row_after (xs ++ ys) q) o ≡ option_and_then (row_after ys q) (option_and_then (row_after xs q) o)) [
        | None ↦ refl
        | Some left ↦ row_after_joined xs ys q left
      ]
      | false ↦ row_after_joined xs ys q row
    ]

-- the changes of a row, the first of them apart
row_after_here : (change : Change) (changes : List Change) (q : RowId) (row left : Option (List ℤ)) → same_row q (target change) ≡ true → changed change row ≡ Ok left →
    row_after (change ∷ changes) q row ≡ row_after changes q left
row_after_here change changes q row left here fit =
    ap (λ b. cond b (option_and_then (row_after changes q) (result_ok (changed change row))) (row_after changes q row)) here
    ∙ ap (λ r. option_and_then (row_after changes q) (result_ok r)) fit

row_after_other : (change : Change) (changes : List Change) (q : RowId) (row : Option (List ℤ)) → same_row q (target change) ≡ false → row_after (change ∷ changes) q row ≡ row_after changes q row
row_after_other change changes q row other =
    ap (λ b. cond b (option_and_then (row_after changes q) (result_ok (changed change row))) (row_after changes q row)) other

-- the row before the changes, put through those of it, is the row after them
pub each_row_is_left : EachRowIsLeft
each_row_is_left ts [] before after q h = ap (λ (m : Database). Some (get m q)) (same_Some before after h)
each_row_is_left ts (change ∷ changes) before after q h =
    let first = effect_first ts change changes before after h in
    let mid = first.0 in
    let rest = each_row_is_left ts changes mid after q first.2 in
    elim (cases_Bool (same_row q (target change))) [
      | inl here ↦
          let fit : changed change (get before q) ≡ Ok (get mid q) = ap (λ r. changed change (get before r)) (row_is q (target change) here) ∙ apply_changes ts change before mid first.1
          ∙ ap (λ r. Ok (get mid r)) (sym (row_is q (target change) here)) in
          row_after_here change changes q (get before q) (get mid q) here fit ∙ rest
      | inr other ↦
          row_after_other change changes q (get before q) other ∙ ap (row_after changes q) (sym (apply_stays ts change before mid q first.1 other)) ∙ rest
    ]

-- two databases with the same rows are one
pub effect_is_its_rows : EffectIsItsRows
effect_is_its_rows ts changes before after other h written rest =
    same_map row_total exact_row other after (λ q. elim (cases_Bool (has_row (writes changes) q)) [
      | inl is ↦ sym (written q is)
      | inr none ↦ rest q none ∙ sym (changes_only_writes ts changes before after q h none)
    ])

pub values_stay_apart : ValuesStayApart
values_stay_apart ts [] before after apart h = subst (λ (m : Database). NoValueTwice ts m) (same_Some before after h) apart
values_stay_apart ts (change ∷ changes) before after apart h =
    let first = effect_first ts change changes before after h in
    values_stay_apart ts changes first.0 after (apply_keeps_apart ts change before first.0 apart first.1) first.2

pub children_keep_parents : ChildrenKeepParents
children_keep_parents ts [] before after kept none h = subst (λ (m : Database). ChildrenHaveParents ts m) (same_Some before after h) kept
children_keep_parents ts (change ∷ changes) before after kept none h =
    let first = effect_first ts change changes before after h in
    children_keep_parents ts changes first.0 after (apply_keeps_parents ts change before first.0 kept none.0 first.1) (none.1 first.0 first.1) first.2
