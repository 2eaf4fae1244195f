-- Which lists of tables are a schema, and what each other list has as its first fault.
use Rattle.std.specs.Prelude.{ℕ, Bool, true, not, ◌&&◌, nat_lt, nat_le, ◌==◌, if◌then◌else◌, List, [], ◌∷◌, ◌++◌, length, find, Option, Some, None, is_some, option_and_then}
use Rattle.std.specs.Option.{option_map_or, option_or}
use Rattle.schema.specs.declared.Table.{Table}
use Rattle.schema.specs.declared.SchemaFault.{SchemaFault}
use Rattle.schema.specs.declared.SchemaFault.TheVariants.{Count, Id, Columns, Twice, Parent, Unique}

-- a table without a unique column and without a parent
abbrev pub plain_table : ℕ → ℕ → Bool → Table
plain_table id columns keyed = record { id = id; columns = columns; keyed = keyed; unique = None; parent = None }

-- the table as a child, whose column has the key of a row of the parent table
abbrev pub child_of : Table → ℕ → ℕ → Table
child_of t column parent = record t { parent = Some (column, parent) }

-- the table with a unique column: no two of its rows have one value there
abbrev pub with_unique : Table → ℕ → Table
with_unique t column = record t { unique = Some column }

-- the table of this id
abbrev pub table_at : List Table → ℕ → Option Table
table_at ts id = find (λ t. t.id == id) ts

-- the column of a table whose value names a parent row, and the parent's table
abbrev pub link_of : List Table → ℕ → Option (ℕ × ℕ)
link_of ts id = option_and_then (λ t. t.parent) (table_at ts id)

-- the unique column of a table
abbrev pub unique_of : List Table → ℕ → Option ℕ
unique_of ts id = option_and_then (λ t. t.unique) (table_at ts id)

abbrev pub is_within : ℕ → ℕ → ℕ → Bool
is_within low high n = nat_le low n && nat_le n high

-- a parent is named by a column that the table has, and is a table of the schema with a lower id
abbrev pub has_fine_parent : List Table → Table → Bool
has_fine_parent ts t = option_map_or (λ link. nat_lt link.0 t.columns && nat_lt link.1 t.id && is_some (table_at ts link.1)) t.parent true

-- a unique column is one that the table has, and the table is keyed
abbrev pub has_fine_unique : Table → Bool
has_fine_unique t = option_map_or (λ column. nat_lt column t.columns && t.keyed) t.unique true

-- the first fault of a table of the list, behind the tables before it
abbrev pub table_fault : List Table → List Table → Table → Option SchemaFault
table_fault ts before t =
    if not (is_within 1 256 t.id) then Some Id
    else if not (is_within 1 16 t.columns) then Some Columns
    else if is_some (table_at before t.id) then Some Twice
    else if not (has_fine_parent ts t) then Some Parent
    else if not (has_fine_unique t) then Some Unique
    else None

-- the first fault from a table of the list on, table by table
abbrev pub fault_from : List Table → List Table → List Table → Option SchemaFault
fault_from ts before [] = None
fault_from ts before (t ∷ rest) = option_or (table_fault ts before t) (fault_from ts (before ++ t ∷ []) rest)

-- the first fault of a list of tables; none where it is a schema
abbrev pub schema_fault : List Table → Option SchemaFault
schema_fault ts = if is_within 1 256 (length ts) then fault_from ts [] ts else Some Count
