-- A map from rows in the order of insertion, as a finite map.
use Rattle.std.proofs.Common.{◌≡◌, ◌∙◌, ◌<◌, sym, ap, arith, true≢false, cond, List, [], ◌∷◌, ◌++◌, length, Option, Some, None, IfSome, Result, Ok, Err, IsOk, OnOk, OnErr}
use Rattle.std.specs.Prelude.{option_to_list}
use Rattle.std.specs.Map.{lookup}
use Rattle.std.specs.FinMap.{get, find, insert, remove, get-empty, get-from_entries}
use Rattle.std.specs.FinMap.Entries.{find-append}
use Rattle.indexmap.specs.IndexMap.{IndexMap, Updates, spare, get as look_up}
use Rattle.schema.specs.declared.RowId.{RowId}
use Rattle.schema.proofs.RowMaps.{row_eq, turned, same_row_itself, rows_of, lookup-find, get_row, rows-set, rows-removed}
use Rattle.schema.specs.RowId.{row_cmp, row_total}

-- in a map without entries there is no row
pub no_row : {X : Type 0} (entries : List (RowId × X)) (row : RowId) → length entries ≡ 0 → None ≡ get (rows_of entries) row
no_row [] row none = sym (get-empty row_cmp row)
no_row (e ∷ es) row none = absurd (omega arith)

module _ {X S : Type 0} (m n : IndexMap RowId X S) where
  -- where there is room, or the row is there, an insert sets it
  pub inserted : {T E : Type 0} (r : Result T E) (k : RowId) (v : X) → (get (rows_of m.entries) k ≡ None → 0 < spare m) → (0 < spare m → IsOk r) → OnErr r (look_up row_eq m k ≡ None) →
      OnOk r (Updates row_eq m n k (Some v)) → rows_of n.entries ≡ insert (rows_of m.entries) k v
  inserted (Ok x) k v room succeeds absent is = rows-set m.entries n.entries k v is.0
  inserted (Err e) k v room succeeds absent is = absurd (true≢false (sym (succeeds (room (get_row m.entries k ∙ absent)))))

  -- the entry that a map gave up last was its row's
  pub got_last : (o : Option (RowId × X)) → m.entries ≡ n.entries ++ option_to_list o → IfSome o (λ p. Updates row_eq m n p.0 None) → IfSome o (λ p. get (rows_of m.entries) p.0 ≡ Some p.1)
  got_last None e h = tt
  got_last (Some p) e h =
      let none : find row_cmp p.0 n.entries ≡ None = sym (lookup-find n.entries p.0) ∙ h.0 p.0 ∙ ap (λ b. cond b None (lookup (row_eq p.0) m.entries)) (turned p.0 p.0 ∙ same_row_itself p.0) in
      get-from_entries row_total m.entries p.0 ∙ ap (find row_cmp p.0) e ∙ find-append row_cmp row_total n.entries p.0 p.1 p.0 none
      ∙ ap (λ b. cond b (Some p.1) (find row_cmp p.0 n.entries)) (same_row_itself p.0)

  pub gave_last : (o : Option (RowId × X)) → IfSome o (λ p. Updates row_eq m n p.0 None) → IfSome o (λ p. rows_of n.entries ≡ remove (rows_of m.entries) p.0)
  gave_last None h = tt
  gave_last (Some p) h = rows-removed m.entries n.entries p.0 h.0
