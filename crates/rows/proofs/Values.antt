-- What one change does to the values of unique columns.
use Rattle.std.proofs.Common.{◌≡◌, ◌∙◌, sym, ap, refl, inl, inr, Bool, true, false, true≢false, cond, ℕ, ℤ, List, ◌++◌, Option, Some, None}
use Rattle.std.specs.Prelude.{not, ◌||◌, slice_get, option_and_then, option_to_list}
use Rattle.std.specs.Option.{option_map, option_map_or}
use Rattle.std.specs.FinMap.{get}
use Rattle.std.proofs.lemmas.Bool.{cases_Bool, or_parts}
use Rattle.std.proofs.lemmas.List.Folds.{list_any-append}
use Rattle.schema.specs.declared.Table.{Table}
use Rattle.schema.specs.declared.RowId.{RowId}
use Rattle.schema.specs.RowId.{same_row}
use Rattle.schema.specs.Rows.{Mark, has_row}
use Rattle.schema.specs.Schema.{unique_of}
use Rattle.rows.specs.declared.Change.{Change}
use Rattle.rows.specs.declared.Change.TheVariants.{Insert, Update, Delete}
use Rattle.rows.specs.Naming.{names_column}
use Rattle.rows.specs.Step.{marks_of}
use Rattle.rows.specs.Database.{Database, target, mark_of, mark_in, is_free, row_is_free, names_unique, sets_value, apply, moves_value, step_between, NoValueTwice}
use Rattle.rows.proofs.Assigned.{assigned_keeps}
use Rattle.rows.proofs.Apply.{Fits, update_left, delete_left, applied_from, apply_changes, apply_stays, row_is}
use Rattle.rows.proofs.Marks.{mark_there, free_by_rows}

-- ---- changes that leave the value alone

-- the mark is the same one, where the unique column stays
same_mark : (ts : List Table) (id mask : ℕ) (there new : List ℤ) → ((c : ℕ) → names_column mask c ≡ false → slice_get new c ≡ slice_get there c) → names_unique ts id mask ≡ false →
    mark_of ts id new ≡ mark_of ts id there
same_mark ts id mask there new same = by (unique_of ts id)
  where
    marked : Option ℤ → Option Mark
    marked = option_map (λ value. record { table = id; key = value })

    by : (o : Option ℕ) → option_map_or (names_column mask) o false ≡ false → marked (option_and_then (slice_get new) o) ≡ marked (option_and_then (slice_get there) o)
    by None h = refl
    by (Some column) h = ap marked (same column h)

-- a change that moves no value leaves its row the mark that it had
unmoved : (ts : List Table) (change : Change) (before left : Option (List ℤ)) → Fits change before left → moves_value ts change ≡ false →
    option_and_then (mark_of ts (target change).table) left ≡ option_and_then (mark_of ts (target change).table) before
unmoved ts (Insert row columns) before left fits stays = cc
unmoved ts (Update row named) before left fits stays =
    let new = update_left row named before left fits in
    ap (option_and_then (mark_of ts row.table)) new.3
    ∙ same_mark ts row.table named.mask new.0 new.1 (λ c other. assigned_keeps c named.mask named.values new.0 new.1 new.4 other) stays
    ∙ sym (ap (option_and_then (mark_of ts row.table)) new.2)
unmoved ts (Delete row) before left fits stays = cc

-- a mark that a change leaves its row without saying so is one that the row had
unset_mark : (ts : List Table) (change : Change) (before left : Option (List ℤ)) (mark : Mark) → Fits change before left → sets_value ts change ≡ false →
    has_row (option_to_list (option_and_then (mark_of ts (target change).table) left)) mark ≡ true → has_row (option_to_list (option_and_then (mark_of ts (target change).table) before)) mark ≡ true
unset_mark ts (Insert row columns) before left mark fits unset has = cc
unset_mark ts (Update row named) before left mark fits unset has = ap (λ o. has_row (option_to_list o) mark) (sym (unmoved ts (Update row named) before left fits unset)) ∙ has
unset_mark ts (Delete row) before left mark fits unset has =
    absurd (true≢false (sym has ∙ ap (λ l. has_row (option_to_list (option_and_then (mark_of ts row.table) l)) mark) (delete_left row before left fits)))

-- ---- the rows that the change is not of

-- they keep their marks
mark_stays : (ts : List Table) (change : Change) (before after : Database) (q : RowId) → apply ts change before ≡ Some after → same_row q (target change) ≡ false →
    mark_in ts after q ≡ mark_in ts before q
mark_stays ts change before after q h other = ap (λ o. option_to_list (option_and_then (mark_of ts q.table) o)) (apply_stays ts change before after q h other)

-- where a change does the same to its row in two databases, the same rows have a mark behind it, where they had it before
pub apply_same_holders : (ts : List Table) (change : Change) (a b after left : Database) (mark : Mark) → apply ts change a ≡ Some after → apply ts change b ≡ Some left →
    get after (target change) ≡ get left (target change) →
    ((q : RowId) → has_row (mark_in ts a q) mark ≡ has_row (mark_in ts b q) mark) → (q : RowId) → has_row (mark_in ts after q) mark ≡ has_row (mark_in ts left q) mark
apply_same_holders ts change a b after left mark one two now same q =
    elim (cases_Bool (same_row q (target change))) [
      | inl here ↦ rw (row_is q (target change) here) (ap (λ o. has_row (option_to_list (option_and_then (mark_of ts (target change).table) o)) mark) now)
      | inr apart ↦
          ap (λ l. has_row l mark) (mark_stays ts change a after q one apart)
          ∙ same q
          ∙ ap (λ l. has_row l mark) (sym (mark_stays ts change b left q two apart))
    ]

-- ---- what one change does

-- a mark that is none of a change's stays with the rows that have it
pub apply_keeps_marks : (ts : List Table) (change : Change) (before after : Database) (mark : Mark) (q : RowId) → apply ts change before ≡ Some after →
    has_row (marks_of (step_between ts change before after)) mark ≡ false → has_row (mark_in ts after q) mark ≡ has_row (mark_in ts before q) mark
apply_keeps_marks ts change before after mark q h other =
    elim (cases_Bool (same_row q (target change))) [
      | inl here ↦ rw (row_is q (target change) here) (at_target (moves_value ts change) refl other)
      | inr apart ↦ ap (λ l. has_row l mark) (mark_stays ts change before after q h apart)
    ]
  where
    mark_at : Database → Option Mark
    mark_at db = option_and_then (mark_of ts (target change).table) (get db (target change))

    at_target : (b : Bool) → moves_value ts change ≡ b → has_row (option_to_list (cond b (mark_at before) None) ++ option_to_list (cond b (mark_at after) None)) mark ≡ false →
        has_row (option_to_list (mark_at after)) mark ≡ has_row (option_to_list (mark_at before)) mark
    at_target true moves none =
        let was = option_to_list (mark_at before) in
        let now = option_to_list (mark_at after) in
        let parts = or_parts (has_row was mark) (has_row now mark) (sym (list_any-append (same_row mark) was now) ∙ none) in
        parts.1 ∙ sym parts.0
    at_target false stays none =
        ap (λ o. has_row (option_to_list o) mark) (unmoved ts change (get before (target change)) (get after (target change)) (apply_changes ts change before after h) stays)

-- the mark that a change leaves its row no other row has before it
own_alone : (ts : List Table) (change : Change) (before after : Database) (mark : Mark) (q : RowId) → NoValueTwice ts before → apply ts change before ≡ Some after →
    has_row (mark_in ts after (target change)) mark ≡ true → has_row (mark_in ts before q) mark ≡ true → q ≡ target change
own_alone ts change before after mark q apart h has other =
    elim (cases_Bool (sets_value ts change)) [
      | inl sets ↦
          let there = mark_there ts after (target change) mark has in
          let stands : row_is_free ts before (target change) (get after (target change)) ≡ true =
          sym (ap (λ s. not s || row_is_free ts before (target change) (get after (target change))) sets) ∙ (applied_from ts change before after h).value in
          let free : is_free ts before (target change) there.0 ≡ true = sym (ap (row_is_free ts before (target change)) there.1) ∙ stands in
          (free_by_rows ts before (target change) there.0 mark there.2).0 free q other
      | inr unset ↦
          let was = unset_mark ts change (get before (target change)) (get after (target change)) mark (apply_changes ts change before after h) unset has in
          apart q (target change) mark other was
    ]

-- where no two rows have one value, none have after a change
pub apply_keeps_apart : (ts : List Table) (change : Change) (before after : Database) → NoValueTwice ts before → apply ts change before ≡ Some after → NoValueTwice ts after
apply_keeps_apart ts change before after apart h p q mark one two =
    elim (cases_Bool (same_row p (target change))) [
      | inl first ↦ row_is p (target change) first ∙ sym (to_target q (ap (λ (r : RowId). has_row (mark_in ts after r) mark) (sym (row_is p (target change) first)) ∙ one) two)
      | inr other ↦ elim (cases_Bool (same_row q (target change))) [
        | inl second ↦ to_target p (ap (λ (r : RowId). has_row (mark_in ts after r) mark) (sym (row_is q (target change) second)) ∙ two) one ∙ sym (row_is q (target change) second)
        | inr neither ↦ apart p q mark (had p other one) (had q neither two)
      ]
    ]
  where
    had : (r : RowId) → same_row r (target change) ≡ false → has_row (mark_in ts after r) mark ≡ true → has_row (mark_in ts before r) mark ≡ true
    had r other has = ap (λ l. has_row l mark) (sym (mark_stays ts change before after r h other)) ∙ has

    to_target : (r : RowId) → has_row (mark_in ts after (target change)) mark ≡ true → has_row (mark_in ts after r) mark ≡ true → r ≡ target change
    to_target r own has = elim (cases_Bool (same_row r (target change))) [
      | inl itself ↦ row_is r (target change) itself
      | inr other ↦ own_alone ts change before after mark r apart h own (had r other has)
    ]
