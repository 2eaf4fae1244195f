-- What one change does. Each law here is by cases on the change, and the laws on lists of changes stand on these alone.
use Rattle.std.proofs.Common.{◌≡◌, sym, ap, subst, ◌∙◌, refl, inl, inr, Bool, true, false, ◌&&◌, cond, List, ◌++◌, ℕ, ℤ, Option, Some, None, is_some, is_none, Result, Ok, Err}
use Rattle.std.specs.Prelude.{not, ◌||◌, slice_get, option_and_then}
use Rattle.std.specs.Option.{option_map, option_map_or, ok_or}
use Rattle.std.specs.Result.{result_ok}
use Rattle.std.specs.FinMap.{get, insert, remove, contains_key, get-insert, get-remove}
use Rattle.std.proofs.lemmas.Bool.{cases_Bool, and_from, and_parts, or_cases, or_left, or_right}
use Rattle.std.proofs.lemmas.Option.{cond_some, same_Some, option_and_then_some}
use Rattle.std.proofs.lemmas.List.Folds.{list_any-append}
use Rattle.schema.specs.declared.Table.{Table}
use Rattle.schema.specs.declared.RowId.{RowId}
use Rattle.schema.specs.RowId.{same_row, row_total}
use Rattle.schema.specs.Rows.{has_row}
use Rattle.schema.specs.Schema.{link_of}
pub use Rattle.schema.proofs.RowMaps.{row_is, same_row_itself}
use Rattle.rows.specs.declared.Change.{Change}
use Rattle.rows.specs.declared.Change.TheVariants.{Insert, Update, Delete}
use Rattle.rows.specs.declared.ChangeFault.{ChangeFault}
use Rattle.rows.specs.declared.ChangeFault.TheVariants.{Columns}
use Rattle.rows.specs.Naming.{NamedColumns, names_column, assigned}
use Rattle.rows.specs.Change.{changed}
use Rattle.rows.specs.Database.{Database, put_row, target, parent_of, has_parent, names_parent, is_free, parent_stands, value_stands, row_has_parent, apply}
use Rattle.rows.specs.Database.{ChildrenHaveParents, HasChild, DeletesNoParent}
use Rattle.rows.specs.Effect.{AppliesByKind, Leaves, LeavesWhereItApplies, HasParentWhereItApplies, AppliesWhereItFits}
use Rattle.rows.proofs.Assigned.{assigned_keeps}

pub has_row-left : (xs ys : List RowId) (q : RowId) → has_row xs q ≡ true → has_row (xs ++ ys) q ≡ true
has_row-left xs ys q h = list_any-append (same_row q) xs ys ∙ or_left _ _ h

pub has_row-right : (xs ys : List RowId) (q : RowId) → has_row ys q ≡ true → has_row (xs ++ ys) q ≡ true
has_row-right xs ys q h = list_any-append (same_row q) xs ys ∙ or_right _ _ h

pub get-put_row : (db : Database) (row q : RowId) (left : Option (List ℤ)) → get (put_row db row left) q ≡ cond (same_row q row) left (get db q)
get-put_row db row q None = get-remove row_total db row q
get-put_row db row q (Some columns) = get-insert row_total db row columns q

pub put_there : (db : Database) (row : RowId) (left : Option (List ℤ)) → get (put_row db row left) row ≡ left
put_there db row left = get-put_row db row row left ∙ ap (λ b. cond b left (get db row)) (same_row_itself row)

some_is_not_none : {A : Type 0} {x : A} → ◌≡◌ {A = Option A} (Some x) None → ⊥
some_is_not_none e = cc

-- ---- what a change does to its row

-- a change fits a row that is so, and leaves it so
abbrev pub Fits : Change → Option (List ℤ) → Option (List ℤ) → Type 0
Fits change before left = changed change before ≡ Ok left

pub same_ok : {A E : Type 0} {x y : A} → ◌≡◌ {A = Result A E} (Ok x) (Ok y) → x ≡ y
same_ok e = cc

ok_from : {A E : Type 0} (r : Result A E) (x : A) → result_ok r ≡ Some x → r ≡ Ok x
ok_from (Ok y) x h = ap Ok (same_Some y x h)
ok_from (Err fault) x h = cc

pub insert_left : (id : RowId) (given : List ℤ) (before left : Option (List ℤ)) → Fits (Insert id given) before left → left ≡ Some given
insert_left id given None left fits = sym (same_ok fits)
insert_left id given (Some there) left fits = cc

pub update_left : (id : RowId) (named : NamedColumns) (before left : Option (List ℤ)) → Fits (Update id named) before left →
    (there : List ℤ) × (columns : List ℤ) × (before ≡ Some there) × (left ≡ Some columns) × (assigned named there ≡ Some columns)
update_left id named None left fits = cc
update_left id named (Some there) left fits = by (assigned named there) refl fits
  where
    by : (o : Option (List ℤ)) → assigned named there ≡ o → ◌≡◌ {A = Result (Option (List ℤ)) ChangeFault} (ok_or (option_map (λ columns. Some columns) o) Columns) (Ok left) →
        (before : List ℤ) × (columns : List ℤ) × (Some there ≡ Some before) × (left ≡ Some columns) × (assigned named before ≡ Some columns)
    by None e f = cc
    by (Some columns) e f = (there, columns, refl, sym (same_ok f), e)

pub delete_left : (id : RowId) (before left : Option (List ℤ)) → Fits (Delete id) before left → left ≡ None
delete_left id None left fits = cc
delete_left id (Some there) left fits = sym (same_ok fits)

-- ---- when it applies, and what it leaves

-- whether a change may leave its row so
abbrev pub may_leave : List Table → Change → Database → Option (List ℤ) → Bool
may_leave ts change db left = parent_stands ts change db left && value_stands ts change db left

pub apply_fitting : (ts : List Table) (change : Change) (db : Database) (left : Option (List ℤ)) → Fits change (get db (target change)) left →
    apply ts change db ≡ cond (may_leave ts change db left) (Some (put_row db (target change) left)) None
apply_fitting ts change db left fits =
    ap (λ (r : Result (Option (List ℤ)) ChangeFault). option_and_then (λ l. cond (may_leave ts change db l) (Some (put_row db (target change) l)) None) (result_ok r)) fits

pub applies_from : AppliesWhereItFits
applies_from ts change db left fits stands value =
    apply_fitting ts change db left fits ∙ ap (λ b. cond b (Some (put_row db (target change) left)) None) (and_from _ _ stands value)

pub applied_from : LeavesWhereItApplies
applied_from ts change db after h =
    option_and_then_some (λ left. cond (may_leave ts change db left) (Some (put_row db (target change) left)) None) (result_ok (changed change (get db (target change)))) after h (λ left fits put.
    let made = cond_some (may_leave ts change db left) (put_row db (target change) left) after put in
    let both = and_parts (parent_stands ts change db left) (value_stands ts change db left) made.0 in
    subst (λ (l : Option (List ℤ)). Leaves ts change db l after) (sym (put_there db (target change) left) ∙ ap (λ (m : Database). get m (target change)) made.1)
    (record { fits = ok_from (changed change (get db (target change))) left fits; parent = both.0; value = both.1; is = made.1 }))

pub applies_by_kind : AppliesByKind
applies_by_kind ts (Insert row columns) db =
    elim (get db row) as (λ o. option_and_then (λ left. cond (may_leave ts (Insert row columns) db left) (Some (put_row db row left)) None) (result_ok (changed (Insert row columns) o))
    ≡ cond (is_none o && (has_parent ts db row.table columns && is_free ts db row columns)) (Some (insert db row columns)) None) [
      | None ↦ refl
      | Some there ↦ refl
    ]
applies_by_kind ts (Update row named) db = by (get db row)
  where
    put : Option (List ℤ) → Option Database
    put left = cond (may_leave ts (Update row named) db left) (Some (put_row db row left)) None

    of_columns : (o : Option (List ℤ)) → option_and_then put (result_ok (ok_or (option_map (λ columns. Some columns) o) Columns)) ≡ option_and_then (λ columns. put (Some columns)) o
    of_columns None = refl
    of_columns (Some columns) = refl

    by : (o : Option (List ℤ)) → option_and_then put (result_ok (changed (Update row named) o)) ≡ option_and_then (λ columns. put (Some columns)) (option_and_then (assigned named) o)
    by None = refl
    by (Some there) = of_columns (assigned named there)
applies_by_kind ts (Delete row) db =
    elim (get db row) as (λ o. option_and_then (λ left. cond (may_leave ts (Delete row) db left) (Some (put_row db row left)) None) (result_ok (changed (Delete row) o))
    ≡ cond (is_some o) (Some (remove db row)) None) [
      | None ↦ refl
      | Some there ↦ refl
    ]

pub apply_changes : (ts : List Table) (change : Change) (db after : Database) → apply ts change db ≡ Some after → Fits change (get db (target change)) (get after (target change))
apply_changes ts change db after h = (applied_from ts change db after h).fits

-- the rows that the change is not of stay
pub apply_stays : (ts : List Table) (change : Change) (db after : Database) (q : RowId) → apply ts change db ≡ Some after → same_row q (target change) ≡ false → get after q ≡ get db q
apply_stays ts change db after q h other =
    ap (λ (m : Database). get m q) (sym (applied_from ts change db after h).is)
    ∙ get-put_row db (target change) q (get after (target change)) ∙ ap (λ b. cond b (get after (target change)) (get db q)) other

-- a change does the same to two databases at each row where they are the same, and at its own row
pub apply_agrees : (ts : List Table) (change : Change) (a b after left : Database) (q : RowId) → apply ts change a ≡ Some after → apply ts change b ≡ Some left →
    get a (target change) ≡ get b (target change) → ((same_row q (target change) ≡ false) → get a q ≡ get b q) → get after q ≡ get left q
apply_agrees ts change a b after left q ha hb same rest =
    elim (cases_Bool (same_row q (target change))) [
      | inl here ↦
          let there : get after (target change) ≡ get left (target change) = same_ok (sym (apply_changes ts change a after ha) ∙ ap (changed change) same ∙ apply_changes ts change b left hb) in
          rw (row_is q (target change) here) there
      | inr other ↦ apply_stays ts change a after q ha other ∙ rest other ∙ sym (apply_stays ts change b left q hb other)
    ]

-- ---- parents

-- the parent row that the columns name by this link
abbrev pub named_by : List ℤ → ℕ × ℕ → Option RowId
named_by columns link = option_map (λ key. record { table = link.1; key = key }) (slice_get columns link.0)

-- a database that has the parent that the columns name, where another one has it
pub parent_alike : (ts : List Table) (a b : Database) (id : ℕ) (columns : List ℤ) → ((p : RowId) → parent_of ts id columns ≡ Some p → contains_key a p ≡ true → contains_key b p ≡ true) →
    has_parent ts a id columns ≡ true → has_parent ts b id columns ≡ true
parent_alike ts a b id columns same = by (parent_of ts id columns) refl
  where
    none : Bool
    none = not (is_some (link_of ts id))

    by : (o : Option RowId) → parent_of ts id columns ≡ o → (none || option_map_or (contains_key a) o false) ≡ true → (none || option_map_or (contains_key b) o false) ≡ true
    by None e h = h
    by (Some p) e h = elim (or_cases none (contains_key a p) h) [
      | inl is ↦ or_left _ _ is
      | inr there ↦ or_right none _ (same p e there)
    ]

-- the parent is the same one, where the column that names it stays
same_parent : (ts : List Table) (id mask : ℕ) (there new : List ℤ) → ((c : ℕ) → names_column mask c ≡ false → slice_get new c ≡ slice_get there c) → names_parent ts id mask ≡ false →
    parent_of ts id new ≡ parent_of ts id there
same_parent ts id mask there new same = by (link_of ts id)
  where
    by : (o : Option (ℕ × ℕ)) → option_map_or (λ link. names_column mask link.0) o false ≡ false → option_and_then (named_by new) o ≡ option_and_then (named_by there) o
    by None h = refl
    by (Some link) h = ap (λ (o : Option ℤ). option_map (λ key. record { table = link.1; key = key }) o) (same link.0 h)

-- where each child has its parent, the row that a change leaves has its own
left_has_parent : (ts : List Table) (change : Change) (db : Database) (left : Option (List ℤ)) → ChildrenHaveParents ts db → Fits change (get db (target change)) left →
    parent_stands ts change db left ≡ true → row_has_parent ts db (target change).table left ≡ true
left_has_parent ts (Insert row columns) db left kept fits stands = stands
left_has_parent ts (Update row named) db left kept fits stands =
    elim (cases_Bool (names_parent ts row.table named.mask)) [
      | inl names ↦ sym (ap (λ b. not b || row_has_parent ts db row.table left) names) ∙ stands
      | inr apart ↦
          let new = update_left row named (get db row) left fits in
          let same = same_parent ts row.table named.mask new.0 new.1 (λ c other. assigned_keeps c named.mask named.values new.0 new.1 new.4 other) apart in
          ap (row_has_parent ts db row.table) new.3
          ∙ ap (λ p. not (is_some (link_of ts row.table)) || option_map_or (contains_key db) p false) same ∙ kept row new.0 new.2
    ]
left_has_parent ts (Delete row) db left kept fits stands = ap (row_has_parent ts db row.table) (delete_left row (get db row) left fits)

pub has_parent_where : HasParentWhereItApplies
has_parent_where ts change db after kept h =
    let a = applied_from ts change db after h in
    left_has_parent ts change db (get after (target change)) kept a.fits a.parent

-- a change that removes its row deletes it
removes_no_parent : (ts : List Table) (db : Database) (change : Change) (before left : Option (List ℤ)) → Fits change before left → left ≡ None → DeletesNoParent ts change db →
    ¬ HasChild ts db (target change)
removes_no_parent ts db (Insert row columns) before left fits gone none = λ child. absurd (some_is_not_none (sym (insert_left row columns before left fits) ∙ gone))
removes_no_parent ts db (Update row named) before left fits gone none = λ child. absurd (some_is_not_none (sym (update_left row named before left fits).3 ∙ gone))
removes_no_parent ts db (Delete row) before left fits gone none = none

-- a parent that stands before the change stands after it, unless the change deletes it
parent_stays : (ts : List Table) (change : Change) (db after : Database) (id p : RowId) (there : List ℤ) → DeletesNoParent ts change db → apply ts change db ≡ Some after → get after id ≡ Some there →
    parent_of ts id.table there ≡ Some p → contains_key db p ≡ true → contains_key after p ≡ true
parent_stays ts change db after id p there none h is names e =
    elim (cases_Bool (same_row p (target change))) [
      | inl here ↦ by (get after (target change)) refl (row_is p (target change) here)
      | inr other ↦ ap is_some (apply_stays ts change db after p h other) ∙ e
    ]
  where
    by : (left : Option (List ℤ)) → get after (target change) ≡ left → p ≡ target change → contains_key after p ≡ true
    by None gone same = elim (cases_Bool (same_row id (target change))) [
      | inl itself ↦ absurd (some_is_not_none (sym is ∙ ap (get after) (row_is id (target change) itself) ∙ gone))
      | inr apart ↦ absurd (removes_no_parent ts db change (get db (target change)) (get after (target change)) (apply_changes ts change db after h) gone none
          (id, there, sym (apply_stays ts change db after id h apart) ∙ is, names ∙ ap Some same))
    ]
    by (Some columns) stays same = ap is_some (ap (get after) same ∙ stays)

-- a change that applies leaves each child its parent, unless it deletes one
pub apply_keeps_parents : (ts : List Table) (change : Change) (db after : Database) → ChildrenHaveParents ts db → DeletesNoParent ts change db → apply ts change db ≡ Some after →
    ChildrenHaveParents ts after
apply_keeps_parents ts change db after kept none h id there is =
    let had : has_parent ts db id.table there ≡ true = elim (cases_Bool (same_row id (target change))) [
      | inl here ↦
          let e = row_is id (target change) here in
          ap (λ (r : RowId). has_parent ts db r.table there) e ∙ sym (ap (row_has_parent ts db (target change).table) (ap (get after) (sym e) ∙ is)) ∙ has_parent_where ts change db after kept h
      | inr other ↦ kept id there (sym (apply_stays ts change db after id h other) ∙ is)
    ] in
    parent_alike ts db after id.table there (λ p names e. parent_stays ts change db after id p there none h is names e) had
