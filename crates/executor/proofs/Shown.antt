-- A change that is run over the rows and the holders that were handed out does what it does to each database that agrees there.
use Rattle.std.proofs.Common.{◌≡◌, ap, sym, subst, ◌∙◌, refl, ℕ, zero, suc, ◌<◌, ℤ, Bool, true, false, ◌&&◌, cond, List, [], ◌∷◌, length, get_or, Option, Some, None, Result, Ok, Err, arith, unwrap_or}
use Rattle.std.specs.Prelude.{option_and_then, option_to_list, flat_map}
use Rattle.std.specs.Bool.{then_some}
use Rattle.std.specs.Result.{result_ok, result_map_both}
use Rattle.std.specs.Option.{option_map}
use Rattle.std.specs.FinMap.{get, find}
use Rattle.std.proofs.lemmas.List.Concat.{flat_map_single}
use Rattle.std.proofs.lemmas.Option.{option_and_then_some, same_Some, none-some}
use Rattle.schema.specs.declared.Table.{Table}
use Rattle.schema.specs.declared.RowId.{RowId}
use Rattle.schema.specs.RowId.{row_cmp}
use Rattle.schema.specs.Rows.{Mark, has_row}
use Rattle.rows.specs.declared.Change.{Change}
use Rattle.rows.specs.declared.Change.TheVariants.{Insert, Update, Delete}
use Rattle.rows.specs.declared.ChangeFault.{ChangeFault}
use Rattle.rows.specs.declared.step.Step.{Step}
use Rattle.rows.specs.Change.{changed}
use Rattle.rows.specs.Step.{mark_moved, step_from, step_of}
use Rattle.rows.specs.Database.{Database, put_row, target, mark_of, moves_value, sets_value, parent_stands, step_between}
use Rattle.rows.specs.Given.{given_parent, given_mark}
use Rattle.rows.proofs.Apply.{Fits, may_leave, put_there, delete_left, has_row-left, has_row-right}
use Rattle.rows.proofs.Given.{mark_given, parent_stands_alike}
use Rattle.rows.proofs.Marks.{listed}
use Rattle.store_trait.specs.Batch.{IsRising}
use Rattle.store_trait.proofs.Batches.{get-put_batch}
use Rattle.overlay.specs.Pending.{Pending, seen}
use Rattle.overlay.specs.Values.{value_over}
use Rattle.overlay.proofs.ValueRows.{value_is_over}
use Rattle.executor.specs.Held.{Holder, held}
use Rattle.executor.specs.Shown.{IsShown, ShowsOne, step_there}

-- ---- one of the changes

-- what is read off one of the changes is read off all of them
of_one : (f : Change → List RowId) (changes : List Change) (n : ℕ) (change : Change) (q : RowId) → n < length changes → change ≡ get_or changes n change → has_row (f change) q ≡ true →
    has_row (flat_map f changes) q ≡ true
of_one f [] n change q within is has = absurd (omega arith)
of_one f (first ∷ changes) zero change q within is has = has_row-left (f first) (flat_map f changes) q (subst (λ (c : Change). has_row (f c) q ≡ true) is has)
of_one f (first ∷ changes) (suc n) change q within is has = has_row-right (f first) (flat_map f changes) q (of_one f changes n change q (omega arith) is has)

-- so a database that is shown to all of them is shown to each
pub shown_to_one : (ts : List Table) (changes : List Change) (rows : Database) (holders : List Holder) (db : Database) (n : ℕ) (change : Change) → n < length changes →
    change ≡ get_or changes n change → IsShown ts changes rows holders db → ShowsOne ts change rows holders db
shown_to_one ts changes rows holders db n change within is shown = record {
  apart = shown.apart;
  row = shown.written (target change) (ap (λ l. has_row l (target change)) (sym (flat_map_single target changes))
      ∙ of_one (λ c. target c ∷ []) changes n change (target change) within is (listed (Some (target change)) (target change) refl));
  parent = λ q has. shown.parents q (of_one (λ c. option_to_list (given_parent ts c)) changes n change q within is has);
  holder = λ mark gives. shown.values mark (of_one (λ c. option_to_list (given_mark ts c)) changes n change mark within is (listed (given_mark ts change) mark gives));
}

-- ---- what it does

-- the mark that a change moves to its row is the one that it gives it
moved_is_given : (ts : List Table) (change : Change) (row left : Option (List ℤ)) (mark : Mark) → Fits change row left → mark_moved ts change left ≡ Some mark → given_mark ts change ≡ Some mark
moved_is_given ts change row left mark fits = by (moves_value ts change) refl
  where
    sets : (change : Change) (columns : List ℤ) → Fits change row (Some columns) → moves_value ts change ≡ true → sets_value ts change ≡ true
    sets (Insert id values) columns f is = refl
    sets (Update id named) columns f is = is
    sets (Delete id) columns f is = absurd (none-some columns (sym (delete_left id row (Some columns) f)))

    by : (b : Bool) → moves_value ts change ≡ b → cond b (option_and_then (mark_of ts (target change).table) left) None ≡ Some mark → given_mark ts change ≡ Some mark
    by true is h = option_and_then_some (mark_of ts (target change).table) left mark h (λ columns there has.
        let f = fits ∙ ap Ok there in sym (mark_given ts change row columns f (sets change columns f is)) ∙ has)
    by false is h = cc

module _ (ts : List Table) (change : Change) (pending : Pending) (rows : Database) (holders : List Holder) (db : Database) (rising : IsRising pending.left)
    (shown : ShowsOne ts change rows holders db) where
  -- a row that both have alike is seen alike
  seen_alike : (q : RowId) → get rows q ≡ get db q → get (seen pending rows) q ≡ get (seen pending db) q
  seen_alike q same = get-put_batch pending.left rows q rising ∙ ap (unwrap_or (find row_cmp q pending.left)) same ∙ sym (get-put_batch pending.left db q rising)

  abbrev before : Option (List ℤ)
  before = get (seen pending db) (target change)

  -- the step that is told of the row, as it is seen over those handed out, is told of the row in the database
  told_alike : (told : Result Step ChangeFault) → told ≡ step_of ts change (get (seen pending rows) (target change)) → result_ok told ≡ result_ok (step_of ts change before)
  told_alike told is = ap result_ok (is ∙ ap (step_of ts change) (seen_alike (target change) shown.row))

  -- what the change does there, given what it leaves of its row
  abbrev there : Result (Option (List ℤ)) ChangeFault → Option Step
  there left = option_map (step_between ts change (seen pending db))
      (option_and_then (λ l. cond (may_leave ts change (seen pending db) l) (Some (put_row (seen pending db) (target change) l)) None) (result_ok left))

  -- whether the step stands by the rows and the holders handed out, which tells whether it stands there
  abbrev stands : Step → Bool
  stands step = parent_stands ts change (seen pending rows) step.left && value_over ts pending change step.takes (option_and_then (held holders) step.takes)

  stands_there : (left : Option (List ℤ)) → Fits change before left → stands (step_from ts change before left) ≡ may_leave ts change (seen pending db) left
  stands_there left fits = λ i.
      parent_stands_alike ts change (seen pending rows) (seen pending db) before left (λ q is. seen_alike q (shown.parent q is)) fits i
      && value_is_over ts change db pending left (option_and_then (held holders) (mark_moved ts change left)) fits shown.apart rising
      (λ mark moves. ap (option_and_then (held holders)) moves ∙ sym (shown.holder mark (moved_is_given ts change before left mark fits moves))) i

  -- a step that is told, with whether it stands
  pub told_there : (told : Result Step ChangeFault) (step : Step) (holds : Bool) → told ≡ step_of ts change (get (seen pending rows) (target change)) → result_ok told ≡ Some step →
      holds ≡ stands step → then_some holds step ≡ step_there ts change (seen pending db)
  told_there told step holds is some holds_is = by (changed change before) refl (sym (told_alike told is) ∙ some)
    where
      put : (left : Option (List ℤ)) (b : Bool) →
          then_some b (step_from ts change before left) ≡ option_map (step_between ts change (seen pending db)) (cond b (Some (put_row (seen pending db) (target change) left)) None)
      put left true = ap (λ (l : Option (List ℤ)). Some (step_from ts change before l)) (sym (put_there (seen pending db) (target change) left))
      put left false = refl

      by : (left : Result (Option (List ℤ)) ChangeFault) → changed change before ≡ left →
          result_ok (result_map_both (step_from ts change before) (λ (fault : ChangeFault). fault) left) ≡ Some step → then_some holds step ≡ there left
      by (Ok left) fits e =
          let same : step_from ts change before left ≡ step = same_Some (step_from ts change before left) step e in
          (λ i. then_some ((holds_is ∙ ap stands (sym same) ∙ stands_there left fits) i) (sym same i)) ∙ put left (may_leave ts change (seen pending db) left)
      by (Err fault) fits e = cc

  -- and none that is told
  pub none_told : (told : Result Step ChangeFault) → told ≡ step_of ts change (get (seen pending rows) (target change)) → result_ok told ≡ None → None ≡ step_there ts change (seen pending db)
  none_told told is none = by (changed change before) (sym (told_alike told is) ∙ none)
    where
      by : (left : Result (Option (List ℤ)) ChangeFault) → result_ok (result_map_both (step_from ts change before) (λ (fault : ChangeFault). fault) left) ≡ None → None ≡ there left
      by (Ok left) e = cc
      by (Err fault) e = refl
