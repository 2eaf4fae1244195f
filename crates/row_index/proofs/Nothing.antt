-- Where no table has a unique column, or a parent, entries give nothing.
use Rattle.std.proofs.Common.{◌≡◌, ◌∙◌, ap, refl, ℕ, ℤ, ◌==◌, true, false, cond, List, [], ◌∷◌, ◌++◌, Option, Some, None, is_some}
use Rattle.std.specs.Prelude.{slice_get, option_and_then, option_to_list}
use Rattle.std.specs.List.{list_any, flat_map}
use Rattle.std.specs.Option.{option_map, option_map_or}
use Rattle.std.specs.FinMap.{get, insert}
use Rattle.std.proofs.lemmas.Bool.{or_parts}
use Rattle.schema.specs.declared.Table.{Table}
use Rattle.schema.specs.declared.RowId.{RowId}
use Rattle.schema.specs.Schema.{table_at}
use Rattle.schema.specs.Rows.{Mark}
use Rattle.schema.proofs.Telling.{not_some}
use Rattle.rows.specs.Database.{Database, parent_of, parent_in, mark_of, mark_in}
use Rattle.store_trait.specs.Batch.{Entry}
use Rattle.rows.specs.Step.{parent_at}
use Rattle.row_index.specs.Keys.{Keys, marks_at, mark_left, marks_left, taken_up}
use Rattle.row_index.specs.Counts.{parents_at, parents_left}

-- what no table has, the table of no id has
none_at : {X : Type 0} (f : Table → Option X) (ts : List Table) (id : ℕ) → list_any (λ t. is_some (f t)) ts ≡ false → option_and_then f (table_at ts id) ≡ None
none_at f [] id none = refl
none_at f (t ∷ ts) id none =
    let parts = or_parts (is_some (f t)) (list_any (λ u. is_some (f u)) ts) none in
    elim (t.id == id) as (λ b. option_and_then f (cond b (Some t) (table_at ts id)) ≡ None) [
      | true ↦ not_some (f t) parts.0
      | false ↦ none_at f ts id parts.1
    ]

-- a list of what no element gives
none_listed : {A X : Type 0} (f : A → List X) (xs : List A) → ((x : A) → f x ≡ []) → flat_map f xs ≡ []
none_listed f [] none = refl
none_listed f (x ∷ xs) none = (λ i. none x i ++ none_listed f xs none i)

module _ (ts : List Table) (none : list_any (λ (t : Table). is_some t.unique) ts ≡ false) where
  no_mark : (id : ℕ) (o : Option (List ℤ)) → option_and_then (mark_of ts id) o ≡ None
  no_mark id None = refl
  no_mark id (Some columns) = ap (λ u. option_map (λ value. record { table = id; key = value }) (option_and_then (slice_get columns) u)) (none_at (λ t. t.unique) ts id none)

  pub no_marks_left : (batch : List Entry) → marks_left ts batch ≡ []
  no_marks_left batch = none_listed (λ (e : Entry). option_to_list (mark_left ts e)) batch (λ e. ap option_to_list (no_mark e.0.table e.1))

  pub no_marks_at : (rows : List RowId) (db : Database) → marks_at ts rows db ≡ []
  no_marks_at rows db = none_listed (mark_in ts db) rows (λ row. ap option_to_list (no_mark row.table (get db row)))

  pub nothing_taken_up : (batch : List Entry) (keys : Keys) → taken_up ts batch keys ≡ keys
  nothing_taken_up [] keys = refl
  nothing_taken_up (e ∷ batch) keys =
      ap (λ o. taken_up ts batch (option_map_or (λ (m : Mark). insert keys m e.0.key) o keys)) (no_mark e.0.table e.1) ∙ nothing_taken_up batch keys

module _ (ts : List Table) (none : list_any (λ (t : Table). is_some t.parent) ts ≡ false) where
  no_parent : (id : ℕ) (o : Option (List ℤ)) → option_and_then (parent_of ts id) o ≡ None
  no_parent id None = refl
  no_parent id (Some columns) =
      ap (λ l. option_and_then (λ (link : ℕ × ℕ). option_map (λ key. record { table = link.1; key = key }) (slice_get columns link.0)) l) (none_at (λ t. t.parent) ts id none)

  pub no_parents_left : (batch : List Entry) → parents_left ts batch ≡ []
  no_parents_left batch = none_listed (λ (e : Entry). option_to_list (parent_at ts e.0.table e.1)) batch (λ e. ap option_to_list (no_parent e.0.table e.1))

  pub no_parents_at : (rows : List RowId) (db : Database) → parents_at ts rows db ≡ []
  no_parents_at rows db = none_listed (parent_in ts db) rows (λ row. ap option_to_list (no_parent row.table (get db row)))
