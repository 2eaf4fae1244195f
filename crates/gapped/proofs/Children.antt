-- Which rows name a parent, and what changes leave of that.
use Rattle.std.proofs.Common.{◌≡◌, ◌∙◌, sym, ap, true, false, inl, inr, List, [], ◌∷◌, ◌++◌, ℕ, ℤ, Option, Some, None}
use Rattle.std.specs.Prelude.{not, ◌||◌, is_some, option_and_then, option_to_list}
use Rattle.std.specs.Option.{option_map_or}
use Rattle.std.specs.FinMap.{get, contains_key}
use Rattle.std.proofs.lemmas.Bool.{cases_Bool, or_parts}
use Rattle.std.proofs.lemmas.List.Folds.{list_any-append}
use Rattle.std.proofs.lemmas.Option.{option_and_then_some, same_Some}
use Rattle.schema.specs.declared.Table.{Table}
use Rattle.schema.specs.declared.RowId.{RowId}
use Rattle.schema.specs.RowId.{same_row}
use Rattle.schema.specs.Rows.{has_row}
use Rattle.schema.specs.Schema.{link_of}
use Rattle.rows.specs.declared.Change.{Change}
use Rattle.rows.specs.Database.{Database, target, parent_of, parent_in, has_parent, effect, kin, ChildrenHaveParents}
use Rattle.rows.proofs.Apply.{row_is, apply_stays, named_by}
use Rattle.rows.proofs.Effect.{effect_first, kin_then}
use Rattle.rows.proofs.Marks.{listed, one_listed}

-- a row whose columns name a parent has that parent
pub named_there : (ts : List Table) (db : Database) (c p : RowId) (columns : List ℤ) →
    get db c ≡ Some columns → parent_of ts c.table columns ≡ Some p → has_row (parent_in ts db c) p ≡ true
named_there ts db c p columns there names =
    listed (option_and_then (parent_of ts c.table) (get db c)) p (ap (option_and_then (parent_of ts c.table)) there ∙ names)

-- a parent that columns name is there, where the row may have these columns
named_stands : (ts : List Table) (db : Database) (id : ℕ) (columns : List ℤ) (p : RowId) →
    parent_of ts id columns ≡ Some p → has_parent ts db id columns ≡ true → contains_key db p ≡ true
named_stands ts db id columns p = by (link_of ts id)
  where
    by : (o : Option (ℕ × ℕ)) → option_and_then (named_by columns) o ≡ Some p →
        (not (is_some o) || option_map_or (contains_key db) (option_and_then (named_by columns) o) false) ≡ true → contains_key db p ≡ true
    by None names has = absurd cc
    by (Some link) names has = ap (λ q. option_map_or (contains_key db) q false) (sym names) ∙ has

-- where each child has its parent, the parent that a row has is there
pub parent_is_there : (ts : List Table) (db : Database) (c p : RowId) →
    ChildrenHaveParents ts db → has_row (parent_in ts db c) p ≡ true → contains_key db p ≡ true
parent_is_there ts db c p kept has =
    option_and_then_some (parent_of ts c.table) (get db c) p (one_listed (option_and_then (parent_of ts c.table) (get db c)) p has)
    (λ columns there names. named_stands ts db c.table columns p names (kept c columns there))

-- a parent that is no kin of the changes stays with the rows that name it
pub changes_only_kin : (ts : List Table) (changes : List Change) (before after : Database) (p c : RowId) →
    effect ts changes before ≡ Some after → has_row (kin ts changes before) p ≡ false →
    has_row (parent_in ts after c) p ≡ has_row (parent_in ts before c) p
changes_only_kin ts [] before after p c h none = ap (λ (db : Database). has_row (parent_in ts db c) p) (sym (same_Some before after h))
changes_only_kin ts (change ∷ changes) before after p c h none =
    let first = effect_first ts change changes before after h in
    let row = target change in
    let was = parent_in ts before row in
    let now = parent_in ts first.0 row in
    let others = kin ts changes first.0 in
    let all : has_row ((was ++ now) ++ others) p ≡ false =
    ap (λ l. has_row l p) (sym (kin_then ts change changes before first.0 first.1)) ∙ none in
    let parts = or_parts (has_row (was ++ now) p) (has_row others p) (sym (list_any-append (same_row p) (was ++ now) others) ∙ all) in
    let own = or_parts (has_row was p) (has_row now p) (sym (list_any-append (same_row p) was now) ∙ parts.0) in
    changes_only_kin ts changes first.0 after p c first.2 parts.1
    ∙ elim (cases_Bool (same_row c row)) [
      | inl itself ↦
          let same : c ≡ row = row_is c row itself in
          ap (λ (r : RowId). has_row (parent_in ts first.0 r) p) same ∙ own.1
          ∙ sym own.0 ∙ ap (λ (r : RowId). has_row (parent_in ts before r) p) (sym same)
      | inr other ↦
          ap (λ o. has_row (option_to_list (option_and_then (parent_of ts c.table) o)) p)
          (apply_stays ts change before first.0 c first.1 other)
    ]
