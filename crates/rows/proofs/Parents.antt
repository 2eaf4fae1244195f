-- No child is left without its parent by one list of changes behind another, and which changes have kin.
use Rattle.std.proofs.Common.{◌≡◌, sym, ap, subst, ◌∙◌, refl, inl, inr, true, false, true≢false, Bool, List, [], ◌∷◌, Option, Some, None, is_some, ℕ, ℤ}
use Rattle.std.specs.Prelude.{◌||◌, option_and_then, flat_map}
use Rattle.std.specs.Option.{option_map_or}
use Rattle.std.specs.List.{list_any}
use Rattle.std.specs.FinMap.{get}
use Rattle.std.proofs.lemmas.Bool.{cases_Bool, or_left, or_right, or_parts}
use Rattle.std.proofs.lemmas.Option.{same_Some}
use Rattle.schema.specs.declared.Table.{Table}
use Rattle.schema.specs.declared.RowId.{RowId}
use Rattle.schema.specs.RowId.{same_row}
use Rattle.schema.specs.Rows.{has_row, meets}
use Rattle.schema.specs.Schema.{link_of}
use Rattle.schema.specs.Flags.{is_parent}
use Rattle.schema.proofs.Telling.{not_some}
use Rattle.rows.specs.declared.Change.{Change}
use Rattle.rows.specs.declared.Change.TheVariants.{Insert, Update, Delete}
use Rattle.rows.specs.Step.{parent_at, kin_of}
use Rattle.rows.specs.Database.{Database, target, writes, parent_of, parent_in, apply, effect, step_between, steps, kin, marks, DeletesNoParent, LeavesNoOrphan}
use Rattle.rows.specs.Frame.{AgreeOn}
use Rattle.rows.specs.Parents.{NoOrphanOfJoined, NoOrphanBehind, KinAreFew, NoKinOfOthers, NoKinUnrelated}
use Rattle.rows.proofs.Apply.{apply_agrees, apply_stays, row_is, same_row_itself, has_row-right, named_by}
use Rattle.rows.proofs.Marks.{few_of_steps, two_listed, listed}
use Rattle.rows.proofs.Effect.{effect_first, read_first, read_behind, changes_only_writes}
use Rattle.rows.proofs.Frame.{not_in_first}

-- ---- one list behind another

pub no_orphan_of_joined : NoOrphanOfJoined
no_orphan_of_joined ts [] ys db mid h none rest = subst (λ (m : Database). LeavesNoOrphan ts ys m) (sym (same_Some db mid h)) rest
no_orphan_of_joined ts (change ∷ xs) ys db mid h none rest =
    let first = effect_first ts change xs db mid h in (
      none.0,
      λ after one. (
          let same : first.0 ≡ after = same_Some first.0 after (sym first.1 ∙ one) in
          no_orphan_of_joined ts xs ys after mid (ap (effect ts xs) (sym same) ∙ first.2) (none.1 after one) rest
          ),
    )

-- ---- behind another transaction

-- each child of one of the rows in the second database is a row of the first, too
abbrev NoMoreChildren : List Table → List RowId → Database → Database → Type 0
NoMoreChildren ts rows a b =
    (id : RowId) (columns : List ℤ) (p : RowId) → has_row rows p ≡ true → get b id ≡ Some columns → parent_of ts id.table columns ≡ Some p → get a id ≡ Some columns

deletes_alike : (ts : List Table) (rows : List RowId) (change : Change) (a b : Database) → has_row rows (target change) ≡ true → NoMoreChildren ts rows a b → DeletesNoParent ts change a →
    DeletesNoParent ts change b
deletes_alike ts rows (Insert row columns) a b is fewer none = tt
deletes_alike ts rows (Update row named) a b is fewer none = tt
deletes_alike ts rows (Delete row) a b is fewer none = λ child. none (child.0, child.1, fewer child.0 child.1 row is child.2 child.3, child.3)

alike : (ts : List Table) (changes : List Change) (a b after : Database) → effect ts changes a ≡ Some after → AgreeOn (writes changes) a b → NoMoreChildren ts (writes changes) a b →
    LeavesNoOrphan ts changes a → LeavesNoOrphan ts changes b
alike ts [] a b after h same fewer none = tt
alike ts (change ∷ changes) a b after h same fewer none =
    let first = effect_first ts change changes a after h in
    let row = target change in
    let its : has_row (writes (change ∷ changes)) row ≡ true = or_left _ _ (same_row_itself row) in
    let here : get a row ≡ get b row = same row its in (
      deletes_alike ts (writes (change ∷ changes)) change a b its fewer none.0,
      λ next two. alike ts changes first.0 next after first.2
          (λ q is. apply_agrees ts change a b first.0 next q first.1 two here (λ _. same q (or_right (same_row q row) (has_row (writes changes) q) is)))
          (λ id columns p is there names. elim (cases_Bool (same_row id row)) [
            | inl itself ↦ apply_agrees ts change a b first.0 next id first.1 two here (λ other. absurd (true≢false (sym itself ∙ other))) ∙ there
            | inr other ↦
                apply_stays ts change a first.0 id first.1 other
                ∙ fewer id columns p (or_right (same_row p row) (has_row (writes changes) p) is) (sym (apply_stays ts change b next id two other) ∙ there) names
          ])
          (none.1 first.0 first.1),
    )

second_holds : (a b : Bool) → (a || b) ≡ true → b ≡ false → a ≡ true
second_holds true b h none = refl
second_holds false b h none = absurd (true≢false (sym h ∙ none))

-- the parent that changes leave a row that they write is one of their kin
pub left_parent_is_kin : (ts : List Table) (changes : List Change) (before after : Database) (id : RowId) (columns : List ℤ) (p : RowId) → effect ts changes before ≡ Some after →
    has_row (writes changes) id ≡ true → get after id ≡ Some columns → parent_of ts id.table columns ≡ Some p → has_row (kin ts changes before) p ≡ true
left_parent_is_kin ts [] before after id columns p h is there names = absurd (true≢false (sym is))
left_parent_is_kin ts (change ∷ changes) before after id columns p h is there names =
    let first = effect_first ts change changes before after h in
    let row = target change in
    elim (cases_Bool (has_row (writes changes) id)) [
      | inl again ↦ read_behind kin_of ts change changes before first.0 p first.1 (left_parent_is_kin ts changes first.0 after id columns p first.2 again there names)
      | inr once ↦
          let same : id ≡ row = row_is id row (second_holds (same_row id row) (has_row (writes changes) id) is once) in
          let mid : get first.0 id ≡ Some columns = sym (changes_only_writes ts changes first.0 after id first.2 once) ∙ there in
          let named : parent_at ts row.table (get first.0 row) ≡ Some p =
          ap (λ (r : RowId). parent_at ts r.table (get first.0 r)) (sym same) ∙ ap (option_and_then (parent_of ts id.table)) mid ∙ names in
          read_first kin_of ts change changes before first.0 p first.1
          (has_row-right (parent_in ts before row) (parent_in ts first.0 row) p (listed (parent_at ts row.table (get first.0 row)) p named))
    ]

pub no_orphan_behind : NoOrphanBehind
no_orphan_behind ts first second db mid leaves one two apart none =
    let rows_apart = (or_parts (meets (writes first) (writes second) || meets (writes first) (kin ts second db) || meets (writes second) (kin ts first db))
    (meets (marks ts first db) (marks ts second db)) apart).0 in
    let parts = or_parts (meets (writes first) (writes second) || meets (writes first) (kin ts second db)) (meets (writes second) (kin ts first db)) rows_apart in
    let own = or_parts (meets (writes first) (writes second)) (meets (writes first) (kin ts second db)) parts.0 in
    alike ts second db mid leaves two
    (λ q is. sym (changes_only_writes ts first db mid q one (not_in_first (writes first) (writes second) q own.0 is)))
    (λ id columns p is there names. elim (cases_Bool (has_row (writes first) id)) [
      | inl written ↦
          let akin = left_parent_is_kin ts first db mid id columns p one written there names in
          absurd (true≢false (sym is ∙ not_in_first (writes second) (kin ts first db) p parts.1 akin))
      | inr other ↦ sym (changes_only_writes ts first db mid id one other) ∙ there
    ])
    none

-- ---- kin

pub kin_are_few : KinAreFew
kin_are_few = few_of_steps kin_of (λ step. two_listed step.old step.new)

-- a row of a table that has no parent has none
no_parent : (ts : List Table) (id : ℕ) (row : Option (List ℤ)) → is_some (link_of ts id) ≡ false → parent_at ts id row ≡ None
no_parent ts id None none = refl
no_parent ts id (Some columns) none = ap (option_and_then (named_by columns)) (not_some (link_of ts id) none)

pub no_kin_of_others : NoKinOfOthers
no_kin_of_others ts [] db none = refl
no_kin_of_others ts (change ∷ changes) db none =
    let parts = or_parts (is_some (link_of ts (target change).table)) (list_any (λ (row : RowId). is_some (link_of ts row.table)) (writes changes)) none in
    let at = λ (row : Option (List ℤ)). no_parent ts (target change).table row parts.0 in
    elim (apply ts change db) as (λ o. flat_map kin_of (option_map_or (λ after. step_between ts change db after ∷ steps ts changes after) o []) ≡ []) [
      | None ↦ refl
      | Some after ↦ rw (at (get db (target change)), at (get after (target change))) (no_kin_of_others ts changes after parts.1)
    ]

none_of_first : (p q : RowId → Bool) (rows : List RowId) → list_any (λ row. p row || q row) rows ≡ false → list_any p rows ≡ false
none_of_first p q [] h = refl
none_of_first p q (row ∷ rows) h =
    let parts = or_parts (p row || q row) (list_any (λ r. p r || q r) rows) h in
    (λ i. (or_parts (p row) (q row) parts.0).0 i || none_of_first p q rows parts.1 i)

pub no_kin_unrelated : NoKinUnrelated
no_kin_unrelated ts changes db none =
    no_kin_of_others ts changes db (none_of_first (λ row. is_some (link_of ts row.table)) (λ row. is_parent ts row.table) (writes changes) none)
