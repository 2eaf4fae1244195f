-- What is pending of changes that apply one after another shows.
use Rattle.std.proofs.Common.{◌≡◌, ap, sym, subst, ◌∙◌, refl, Bool, true, false, ◌||◌, cond, List, [], ◌∷◌, ◌++◌, ℤ, Option, Some, None, Ok}
use Rattle.std.specs.Prelude.{unwrap_or, option_and_then, flat_map}
use Rattle.std.specs.FinMap.{get, find, put, same_map}
use Rattle.std.specs.FinMap.Entries.{find-put}
use Rattle.std.proofs.lemmas.List.{flat_map_more}
use Rattle.schema.specs.declared.Table.{Table}
use Rattle.schema.specs.declared.RowId.{RowId}
use Rattle.schema.specs.RowId.{row_cmp, same_row, exact_row, row_total}
use Rattle.schema.specs.Rows.{has_row}
use Rattle.rows.specs.declared.Change.{Change}
use Rattle.rows.specs.Change.{changed}
use Rattle.rows.specs.declared.step.Step.{Step}
use Rattle.rows.specs.Step.{step_from, kin_of, marks_of}
use Rattle.rows.specs.Database.{Database, put_row, target, writes, apply, effect, step_between, steps}
use Rattle.rows.specs.Effect.{parent_stands, value_stands}
use Rattle.rows.specs.Frame.{AgreeOn, SameEffect}
use Rattle.rows.proofs.Apply.{apply_stays, applies_from, put_there, row_is}
use Rattle.rows.proofs.Effect.{changes_only_writes, effect_joined, steps_then, steps_joined}
use Rattle.rows.proofs.Frame.{same_kin, same_marks}
use Rattle.store_trait.specs.Batch.{IsRising, rows_in}
use Rattle.store_trait.proofs.Batches.{find-rows_in, get-put_batch, put_rises, rows_in_rise, same_batch}
use Rattle.overlay.specs.Pending.{Pending, none_pending, pushed, left_at, seen}
use Rattle.overlay.specs.Follows.{Follows}

-- rows that are the same in two databases
pub rows_in-alike : (rows : List RowId) (a b : Database) → AgreeOn rows a b → rows_in rows a ≡ rows_in rows b
rows_in-alike rows a b same =
    same_batch (rows_in rows a) (rows_in rows b) (rows_in_rise rows a) (rows_in_rise rows b) (λ q.
    find-rows_in rows a q ∙ by q (has_row rows q) refl ∙ sym (find-rows_in rows b q))
  where
    by : (q : RowId) (is : Bool) → has_row rows q ≡ is → cond is (Some (get a q)) None ≡ cond is (Some (get b q)) None
    by q true h = ap Some (same q h)
    by q false h = refl

pub Follows-none : (ts : List Table) (db : Database) → Follows ts db none_pending db
Follows-none ts db = record { applied = refl; left = refl; kin = refl; marks = refl }

pub rising-Follows : {ts : List Table} {db : Database} {pending : Pending} {after : Database} → Follows ts db pending after → IsRising pending.left
rising-Follows {pending = pending} {after = after} f = rw f.left (rows_in_rise (writes pending.changes) after)

pub left_at-Follows : {ts : List Table} {db : Database} {pending : Pending} {after : Database} → Follows ts db pending after → (q : RowId) →
    left_at pending q ≡ cond (has_row (writes pending.changes) q) (Some (get after q)) None
left_at-Follows {pending = pending} {after = after} f q = ap (find row_cmp q) f.left ∙ find-rows_in (writes pending.changes) after q

-- a row is as the changes leave it, and else as it was
pub get-Follows : {ts : List Table} {db : Database} {pending : Pending} {after : Database} → Follows ts db pending after → (q : RowId) → get after q ≡ unwrap_or (left_at pending q) (get db q)
get-Follows {ts = ts} {db = db} {pending = pending} {after = after} f q =
    by (has_row (writes pending.changes) q) refl ∙ sym (ap (λ o. unwrap_or o (get db q)) (left_at-Follows f q))
  where
    by : (is : Bool) → has_row (writes pending.changes) q ≡ is → get after q ≡ unwrap_or (cond is (Some (get after q)) None) (get db q)
    by true h = refl
    by false h = changes_only_writes ts pending.changes db after q f.applied h

-- the database as the transaction sees it is the one that its changes leave
pub seen-Follows : {ts : List Table} {db : Database} {pending : Pending} {after : Database} → Follows ts db pending after → seen pending db ≡ after
seen-Follows {db = db} {pending = pending} {after = after} f =
    same_map row_total exact_row (seen pending db) after (λ q.
    get-put_batch pending.left db q (rising-Follows f) ∙ sym (get-Follows f q))

-- what is read off the steps of changes, with one more that applies
read_pushed : {X : Type 0} (f : Step → List X) (ts : List Table) (changes : List Change) (change : Change) (db after next : Database) → effect ts changes db ≡ Some after →
    apply ts change after ≡ Some next → flat_map f (steps ts changes db) ++ f (step_between ts change after next) ≡ flat_map f (steps ts (changes ++ change ∷ []) db)
read_pushed f ts changes change db after next h one =
    flat_map_more f [] (steps ts changes db) (step_between ts change after next)
    ∙ ap (flat_map f) (ap (λ l. steps ts changes db ++ l) (sym (steps_then ts change [] after next one)) ∙ sym (steps_joined ts changes (change ∷ []) db after h))

-- one more change that applies, with its step
pub Follows-pushed : {ts : List Table} {db : Database} {pending : Pending} {after : Database} (change : Change) (next : Database) → Follows ts db pending after → apply ts change after ≡ Some next →
    Follows ts db (pushed pending change (step_between ts change after next)) next
Follows-pushed {ts = ts} {db = db} {pending = pending} {after = after} change next f h = record {
  applied = effect_joined ts pending.changes (change ∷ []) db ∙ ap (option_and_then (effect ts (change ∷ []))) f.applied ∙ ap (option_and_then (effect ts [])) h;
  left = same_batch (put row_cmp row (get next row) pending.left) (rows_in (writes (pending.changes ++ change ∷ [])) next)
      (put_rises row (get next row) pending.left (rising-Follows f)) (rows_in_rise (writes (pending.changes ++ change ∷ [])) next) (λ q.
      find-put row_cmp row_total q row (get next row) pending.left
      ∙ ap (cond (same_row q row) (Some (get next row))) (left_at-Follows f q)
      ∙ by q (same_row q row) (has_row (writes pending.changes) q) refl
      ∙ sym (ap (λ b. cond b (Some (get next q)) None) (has_row-push q pending.changes))
      ∙ sym (find-rows_in (writes (pending.changes ++ change ∷ [])) next q));
  kin = ap (λ l. l ++ kin_of (step_between ts change after next)) f.kin ∙ read_pushed kin_of ts pending.changes change db after next f.applied h;
  marks = ap (λ l. l ++ marks_of (step_between ts change after next)) f.marks ∙ read_pushed marks_of ts pending.changes change db after next f.applied h;
}
  where
    row : RowId
    row = target change

    by : (q : RowId) (here is : Bool) → same_row q row ≡ here → cond here (Some (get next row)) (cond is (Some (get after q)) None) ≡ cond (here || is) (Some (get next q)) None
    by q true is same = ap (λ (r : RowId). Some (get next r)) (sym (row_is q row same))
    by q false true same = ap Some (sym (apply_stays ts change after next q h same))
    by q false false same = refl

    or_last : (a b c : Bool) → (a || (b || c)) ≡ (b || (a || c))
    or_last true true c = refl
    or_last true false c = refl
    or_last false b c = refl

    has_row-push : (q : RowId) (changes : List Change) → has_row (writes (changes ++ change ∷ [])) q ≡ (same_row q row || has_row (writes changes) q)
    has_row-push q [] = refl
    has_row-push q (first ∷ changes) = ap (λ b. same_row q (target first) || b) (has_row-push q changes) ∙ or_last (same_row q (target first)) (same_row q row) (has_row (writes changes) q)

-- changes that do to another database what they do to db are seen over it too
pub Follows-moved : {ts : List Table} {db : Database} {pending : Pending} {after other : Database} → Follows ts db pending after → (same : SameEffect ts pending.changes db after other) →
    Follows ts other pending same.leaves
Follows-moved {pending = pending} {after = after} f same = record {
  applied = same.defined;
  left = f.left ∙ rows_in-alike (writes pending.changes) after same.leaves same.same_writes;
  kin = f.kin ∙ sym (same_kin same);
  marks = f.marks ∙ sym (same_marks same);
}

-- one more change that fits its row, whose parent is there, and whose value no other row has
pub Follows-step : {ts : List Table} {db : Database} {pending : Pending} {after : Database} (change : Change) (left : Option (List ℤ)) → Follows ts db pending after →
    changed change (get after (target change)) ≡ Ok left → parent_stands ts change after left ≡ true → value_stands ts change after left ≡ true →
    Follows ts db (pushed pending change (step_from ts change (get after (target change)) left)) (put_row after (target change) left)
Follows-step {ts = ts} {db = db} {pending = pending} {after = after} change left f fits parent value =
    let next = put_row after (target change) left in
    subst (λ (l : Option (List ℤ)). Follows ts db (pushed pending change (step_from ts change (get after (target change)) l)) next) (put_there after (target change) left)
    (Follows-pushed change next f (applies_from ts change after left fits parent value))
