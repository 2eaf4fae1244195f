-- What a transaction's flags say, read off the tables that it writes.
use Rattle.std.specs.Prelude.{ℕ, Bool, false, not, ◌||◌, ◌==◌, List, is_some}
use Rattle.std.specs.Option.{option_map_or}
use Rattle.std.specs.List.{list_any}
use Rattle.schema.specs.declared.Table.{Table}
use Rattle.schema.specs.declared.RowId.{RowId}
use Rattle.schema.specs.declared.Flags.{Flags}
use Rattle.schema.specs.Schema.{table_at, link_of}

-- whether the table is the parent of a table of the schema
abbrev pub is_parent : List Table → ℕ → Bool
is_parent ts id = list_any (λ t. option_map_or (λ link. link.1 == id) t.parent false) ts

-- whether the table is there and keyless
abbrev pub is_keyless : List Table → ℕ → Bool
is_keyless ts id = option_map_or (λ t. not t.keyed) (table_at ts id) false

-- foreign-key related: some row is of a table that has a parent or is one
abbrev pub is_fk : List Table → List RowId → Bool
is_fk ts writes = list_any (λ r. is_some (link_of ts r.table) || is_parent ts r.table) writes

-- a missing key: some row is of a keyless table
abbrev pub misses_keys : List Table → List RowId → Bool
misses_keys ts writes = list_any (λ r. is_keyless ts r.table) writes

-- the flags of a transaction that writes these rows
abbrev pub flags_of : List Table → List RowId → Flags
flags_of ts writes = record { fk = is_fk ts writes; missing_keys = misses_keys ts writes }

abbrev pub no_flags : Flags
no_flags = record { fk = false; missing_keys = false }

-- the flags where a row of one table more is written
abbrev pub flags_with : List Table → Flags → ℕ → Flags
flags_with ts flags id =
    record { fk = flags.fk || (is_some (link_of ts id) || is_parent ts id); missing_keys = flags.missing_keys || is_keyless ts id }
