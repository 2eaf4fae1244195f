-- Whether a row of a database names another as its parent.
use Rattle.std.proofs.Common.{◌≡◌, ◌∙◌, sym, ap, true, false, true≢false, ℤ, List, Option, Some, None}
use Rattle.std.specs.Option.{option_map_or}
use Rattle.std.specs.FinMap.{entries, entries_sorted, get-entries}
use Rattle.schema.specs.declared.RowId.{RowId}
use Rattle.schema.specs.RowId.{same_row}
use Rattle.rows.specs.Database.{parent_of}
use Rattle.rows.proofs.Apply.{row_is, same_row_itself}
use Rattle.store_trait.proofs.Batches.{holds}
use Rattle.overlay.proofs.Entries.{once_from_sorted, found_any, any_found}
use Rattle.overlay.specs.Children.{names_row, TellsChildren}

pub named : (row : RowId) (o : Option RowId) → option_map_or (same_row row) o false ≡ true → o ≡ Some row
named row None h = absurd (true≢false (sym h))
named row (Some p) h = ap Some (sym (row_is row p h))

pub names : (row : RowId) (o : Option RowId) → o ≡ Some row → option_map_or (same_row row) o false ≡ true
names row o h = ap (λ o. option_map_or (same_row row) o false) h ∙ same_row_itself row

pub tells_children : TellsChildren
tells_children ts db row = (
  λ h.
      let f = found_any (λ (e : RowId × List ℤ). names_row ts row e.0.table e.1) (entries db) (once_from_sorted (entries db) (holds _ (entries_sorted db))) h in
      (f.0, f.1, get-entries db f.0 ∙ f.2, named row (parent_of ts f.0.table f.1) f.3),
  λ child.
      any_found (λ (e : RowId × List ℤ). names_row ts row e.0.table e.1) (entries db) child.0 child.1 (sym (get-entries db child.0) ∙ child.2)
      (names row (parent_of ts child.0.table child.1) child.3),
)
