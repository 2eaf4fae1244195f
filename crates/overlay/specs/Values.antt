-- Whether no other row that a transaction sees has a mark, told from the row below that has it and from the transaction's own rows.
use Rattle.std.specs.Prelude.{◌≡◌, ℤ, Bool, true, false, not, ◌&&◌, ◌||◌, List, Option, Some, Ok, is_some}
use Rattle.std.specs.List.{list_any}
use Rattle.std.specs.Option.{option_map_or}
use Rattle.std.specs.FinMap.{get}
use Rattle.schema.specs.declared.Table.{Table}
use Rattle.schema.specs.declared.RowId.{RowId}
use Rattle.schema.specs.RowId.{same_row}
use Rattle.schema.specs.Rows.{Mark}
use Rattle.rows.specs.declared.Change.{Change}
use Rattle.rows.specs.Change.{changed}
use Rattle.rows.specs.Database.{Database, target, NoValueTwice}
use Rattle.rows.specs.Effect.{value_stands}
use Rattle.rows.specs.Holders.{has_mark, holder_of}
use Rattle.store_trait.specs.Batch.{Entry, IsRising}
use Rattle.store_trait.specs.Contents.{row_at}
use Rattle.overlay.specs.Pending.{Pending, left_at, seen}
use Rattle.rows.specs.Step.{mark_moved}

-- what is left of a row is there, and has the mark
abbrev pub left_has : List Table → Mark → Entry → Bool
left_has ts mark entry = option_map_or (λ columns. has_mark ts mark (entry.0, columns)) entry.1 false

-- what is left of another row than this one has the mark
abbrev pub other_has : List Table → RowId → Mark → Entry → Bool
other_has ts id mark entry = not (same_row entry.0 id) && left_has ts mark entry

-- a row that has a mark below is the row of this id, or one that the transaction changed: then what it leaves of it counts, and no
-- more what is below
abbrev pub gives_way : Pending → RowId → RowId → Bool
gives_way pending id holder = same_row holder id || is_some (left_at pending holder)

-- no other row has the mark, as the transaction sees the rows, where the holder is the key of the row that has it below, if any
abbrev pub free_over : List Table → Pending → RowId → Mark → Option ℤ → Bool
free_over ts pending id mark holder =
    not (list_any (other_has ts id mark) pending.left) && option_map_or (λ key. gives_way pending id (row_at mark.table key)) holder true

-- no other row has the mark that the change gives its row, if it gives one
abbrev pub value_over : List Table → Pending → Change → Option Mark → Option ℤ → Bool
value_over ts pending change takes holder = option_map_or (λ mark. free_over ts pending (target change) mark holder) takes true

-- where no two rows below have one value, that tells whether the value stands that the change gives its row
abbrev pub ValueOver : Type 0
ValueOver = (ts : List Table) (change : Change) (db : Database) (pending : Pending) (left : Option (List ℤ)) (holder : Option ℤ) →
    changed change (get (seen pending db) (target change)) ≡ Ok left → NoValueTwice ts db → IsRising pending.left →
    ((mark : Mark) → mark_moved ts change left ≡ Some mark → holder ≡ holder_of ts db mark) →
    value_over ts pending change (mark_moved ts change left) holder ≡ value_stands ts change (seen pending db) left
