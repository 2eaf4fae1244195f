-- Who has each value of the unique columns, as a map beside a store's rows.
use Rattle.std.specs.Prelude.{◌≡◌, ℤ, List, [], ◌∷◌, Option, option_and_then, option_to_list}
use Rattle.std.specs.Option.{option_map_or}
use Rattle.std.specs.List.{flat_map}
use Rattle.std.specs.FinMap.{FinMap, get, insert, remove}
use Rattle.schema.specs.declared.Table.{Table}
use Rattle.schema.specs.declared.RowId.{RowId}
use Rattle.schema.specs.RowId.{row_cmp}
use Rattle.schema.specs.Rows.{Mark}
use Rattle.rows.specs.Database.{Database, mark_of, mark_in}
use Rattle.rows.specs.Holders.{holder_of}
use Rattle.store_trait.specs.Batch.{Entry}

-- for each mark the key of the row that has it
abbrev pub Keys : Type 0
Keys = FinMap row_cmp ℤ

-- the keys say who has each mark in a database
abbrev pub Indexes : List Table → Database → Keys → Type 0
Indexes ts db keys = (mark : Mark) → get keys mark ≡ holder_of ts db mark

-- the marks of these rows in a database, in order
abbrev pub marks_at : List Table → List RowId → Database → List Mark
marks_at ts rows db = flat_map (mark_in ts db) rows

-- the mark that an entry gives its row, where the row is there then and has one
abbrev pub mark_left : List Table → Entry → Option Mark
mark_left ts entry = option_and_then (mark_of ts entry.0.table) entry.1

-- the marks that entries give their rows, in order
abbrev pub marks_left : List Table → List Entry → List Mark
marks_left ts batch = flat_map (λ (entry : Entry). option_to_list (mark_left ts entry)) batch

-- the keys without these marks
abbrev pub given_up : List Mark → Keys → Keys
given_up [] keys = keys
given_up (mark ∷ marks) keys = given_up marks (remove keys mark)

-- the keys with the mark of this entry
abbrev pub with_entry : List Table → Entry → Keys → Keys
with_entry ts entry keys = option_map_or (λ mark. insert keys mark entry.0.key) (mark_left ts entry) keys

-- the keys with the marks of these entries
abbrev pub taken_up : List Table → List Entry → Keys → Keys
taken_up ts [] keys = keys
taken_up ts (entry ∷ entries) keys = taken_up ts entries (with_entry ts entry keys)

-- The keys behind a batch: first all marks go that its rows had, and then those come that they have now. So rows may change values
-- with one another.
abbrev pub moved : List Table → List Mark → List Entry → Keys → Keys
moved ts old batch keys = taken_up ts batch (given_up old keys)
