-- What is handed out with a record: copies of rows, and the holders of marks. And which databases a job may be of.
use Rattle.std.proofs.Common.{◌≡◌, sym, ap, ◌∙◌, refl, ℕ, ℤ, true, cond, List, [], ◌∷◌, ◌++◌, map, Option, Some, None, unwrap_or, inl, inr, true≢false, is_lt, Less, ◌⊎◌}
use Rattle.std.specs.Prelude.{slice_get, option_and_then, option_to_list}
use Rattle.std.specs.Option.{option_map}
use Rattle.std.specs.FinMap.{get, empty, is_sorted}
use Rattle.std.specs.FinMap.Entries.{below_all}
use Rattle.std.proofs.lemmas.Bool.{or_cases, or_left, or_right, and_parts, and_from}
use Rattle.std.proofs.lemmas.List.Folds.{list_any-append}
use Rattle.schema.specs.declared.Table.{Table}
use Rattle.schema.specs.declared.RowId.{RowId}
use Rattle.schema.specs.RowId.{row_cmp, same_row, row_total}
use Rattle.schema.specs.Rows.{Mark, has_row}
use Rattle.schema.specs.Schema.{unique_of}
use Rattle.schema.proofs.Telling.{is_less}
use Rattle.rows.specs.Database.{Database, writes, mark_of, mark_in}
use Rattle.rows.specs.Given.{given_parents, given_marks}
use Rattle.rows.specs.Holders.{holder_of}
use Rattle.rows.proofs.Apply.{has_row-right, same_row_itself}
use Rattle.rows.proofs.Holders.{row_with, holder_there}
use Rattle.store_trait.specs.Batch.{rows_in}
use Rattle.store_trait.specs.Operation.{loaded}
use Rattle.store_trait.proofs.Batches.{get-put_batch, rows_in_rise, find-rows_in, find-of_each}
use Rattle.record_codec.specs.Record.{is_rising}
use Rattle.overlay.proofs.Follow.{rows_in-alike}
use Rattle.executor.specs.Held.{Holder, held}
use Rattle.executor.specs.Job.{rows_of}
use Rattle.executor.specs.Laws.{InputIsRows, SameRowsIn, HoldersRise, HoldersAreHeld, SameHandedOver, HandedAgrees, AgreesWithoutUnique}

-- ---- rows

pub input_is_rows : InputIsRows
input_is_rows rows db q is =
    let none : Database = empty in
    get-put_batch (rows_in rows db) none q (rows_in_rise rows db)
    ∙ ap (λ found. unwrap_or found (get none q)) (find-rows_in rows db q)
    ∙ ap (λ b. unwrap_or (cond b (Some (get db q)) None) (get none q)) is

pub same_rows_in : SameRowsIn
same_rows_in = rows_in-alike

-- a row that is among the ones or the others
pub in_either : (xs ys : List RowId) (q : RowId) → has_row (xs ++ ys) q ≡ true → (has_row xs q ≡ true) ⊎ (has_row ys q ≡ true)
in_either xs ys q is = or_cases (has_row xs q) (has_row ys q) (sym (list_any-append (same_row q) xs ys) ∙ is)

-- ---- holders

below_lower : {X : Type 0} (x y : RowId) (es : List (RowId × X)) → row_cmp x y ≡ Less → below_all row_cmp y es ≡ true → below_all row_cmp x es ≡ true
below_lower x y [] less h = refl
below_lower x y (e ∷ es) less h =
    let parts = and_parts (is_lt (row_cmp y e.0)) (below_all row_cmp y es) h in
    and_from _ _ (ap is_lt (row_total.trans x y e.0 less (is_less _ parts.0))) (below_lower x y es less parts.1)

-- each of these with what it has
abbrev of_each : (Mark → Option ℤ) → List Mark → List Holder
of_each f marks = map (λ mark. (mark, f mark)) marks

each_rises : (f : Mark → Option ℤ) (marks : List Mark) → is_rising marks ≡ true → is_sorted row_cmp (of_each f marks) ≡ true
each_rises f [] h = refl
each_rises f (a ∷ []) h = refl
each_rises f (a ∷ b ∷ rest) h =
    let parts = and_parts (is_lt (row_cmp a b)) (is_rising (b ∷ rest)) h in
    let behind = each_rises f (b ∷ rest) parts.1 in
    let below = and_parts (below_all row_cmp b (of_each f rest)) (is_sorted row_cmp (of_each f rest)) behind in
    and_from _ _ (and_from _ _ parts.0 (below_lower a b (of_each f rest) (is_less _ parts.0) below.0)) behind

pub holders_rise : HoldersRise
holders_rise ts stated db are = each_rises (holder_of ts db) stated are.rising

pub holders_are_held : HoldersAreHeld
holders_are_held ts stated db mark is =
    ap (λ found. unwrap_or found None) (find-of_each (holder_of ts db) mark stated)
    ∙ ap (λ b. unwrap_or (cond b (Some (holder_of ts db mark)) None) None) is

each_alike : (f g : Mark → Option ℤ) (marks : List Mark) → ((mark : Mark) → has_row marks mark ≡ true → f mark ≡ g mark) → of_each f marks ≡ of_each g marks
each_alike f g [] same = refl
each_alike f g (mark ∷ marks) same =
    let here = same mark (or_left (same_row mark mark) (has_row marks mark) (same_row_itself mark)) in
    let behind = each_alike f g marks (λ m is. same m (or_right (same_row m mark) (has_row marks m) is)) in
    λ i. (mark, here i) ∷ behind i

pub same_handed_over : SameHandedOver
same_handed_over ts rec a b look = record {
  input = same_rows_in (rows_of rec) a b look.rows;
  holders = each_alike (holder_of ts a) (holder_of ts b) rec.marks look.holders;
}

-- ---- the databases that a job may be of

pub handed_agrees : HandedAgrees
handed_agrees job db states apart input holders = record {
  apart = apart;
  rows = λ q is. ap (λ batch. get (loaded batch) q) input
      ∙ input_is_rows (rows_of job.rec) db q (elim (in_either (rows_of job.rec) (given_parents job.schema job.rec.changes) q is) [
        | inl here ↦ here
        | inr gives ↦ has_row-right (writes job.rec.changes) job.rec.refs q (states.gives_parents q gives)
      ]);
  holders = λ mark is. sym (ap (λ l. held l mark) holders
      ∙ holders_are_held job.schema job.rec.marks db mark (elim (in_either job.rec.marks (given_marks job.schema job.rec.changes) mark is) [
        | inl here ↦ here
        | inr gives ↦ states.gives_marks mark gives
      ]));
}

module _ (ts : List Table) (none : (table : ℕ) → unique_of ts table ≡ None) where
  unmarked : (db : Database) (q : RowId) → mark_in ts db q ≡ []
  unmarked db q = by (get db q)
    where
      by : (row : Option (List ℤ)) → option_to_list (option_and_then (mark_of ts q.table) row) ≡ []
      by None = refl
      by (Some columns) = ap (λ (o : Option ℕ). option_to_list (option_map (λ value. record { table = q.table; key = value }) (option_and_then (slice_get columns) o))) (none q.table)

  unheld : (db : Database) (mark : Mark) → holder_of ts db mark ≡ None
  unheld db mark = by (holder_of ts db mark) refl
    where
      by : (o : Option ℤ) → holder_of ts db mark ≡ o → o ≡ None
      by None is = refl
      by (Some key) is = absurd (true≢false (sym (holder_there ts db mark key is) ∙ ap (λ l. has_row l mark) (unmarked db (row_with mark key))))

pub agrees_without_unique : AgreesWithoutUnique
agrees_without_unique job none no_holder = record {
  apart = λ p q mark has same. absurd (true≢false (sym has ∙ ap (λ l. has_row l mark) (unmarked job.schema none (loaded job.input) p)));
  rows = λ q is. refl;
  holders = λ mark is. unheld job.schema none (loaded job.input) mark ∙ sym (no_holder mark);
}
