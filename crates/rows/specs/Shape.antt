-- Which changes a schema allows, whatever the rows are.
use Rattle.std.specs.Prelude.{◌^◌, Bool, true, false, ◌==◌, nat_lt, List, length}
use Rattle.std.specs.Option.{option_map_or}
use Rattle.schema.specs.declared.Table.{Table}
use Rattle.schema.specs.Schema.{table_at}
use Rattle.rows.specs.declared.Change.{Change}
use Rattle.rows.specs.declared.Change.TheVariants.{Insert, Update, Delete}
use Rattle.rows.specs.Database.{target}

-- whether a table has the columns that a change gives or names: an insert gives each of them a value, and an
-- update names columns from the first to the last of them
abbrev pub has_columns : Table → Change → Bool
has_columns table (Insert row columns) = length columns == table.columns
has_columns table (Update row named) = nat_lt named.mask (2 ^ table.columns)
has_columns table (Delete row) = true

-- whether the change is of a table of the schema that has the columns that it gives or names
abbrev pub is_shaped : List Table → Change → Bool
is_shaped ts change = option_map_or (λ table. has_columns table change) (table_at ts (target change).table) false
