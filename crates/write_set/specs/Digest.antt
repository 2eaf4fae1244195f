-- The digests of rows and marks, and sets of them.
use Rattle.std.specs.Prelude.{ℕ, ◌-◌, ◌*◌, ◌^◌, Bool, false, List, ◌++◌, map, filter, bit_xor}
use Rattle.std.specs.Int.{w64, cast_unsigned}
use Rattle.std.specs.Ordering.{nat_cmp}
use Rattle.std.specs.Option.{option_map_or}
use Rattle.std.specs.FinMap.{from_entries, keys}
use Rattle.schema.specs.declared.Table.{Table}
use Rattle.schema.specs.declared.RowId.{RowId}
use Rattle.schema.specs.Rows.{Mark}
use Rattle.schema.specs.Schema.{table_at}
use Rattle.log_index.specs.declared.Footprint.{Footprint}

-- the bits of the row's key, xor its table's id in the upper 16 of the 64 bits
abbrev pub digest_of : RowId → ℕ
digest_of row = bit_xor (cast_unsigned w64 row.key) (row.table * 2 ^ 48)

-- the complement of what a row's digest is made of, so that a mark's digest is seldom a row's
abbrev pub mark_digest : Mark → ℕ
mark_digest mark = 2 ^ 64 - 1 - digest_of mark

-- the row is in a keyed table of the schema
abbrev pub is_keyed : List Table → RowId → Bool
is_keyed tables row = option_map_or (λ t. t.keyed) (table_at tables row.table) false

-- these numbers in rising order, each once
abbrev pub rising : List ℕ → List ℕ
rising numbers = keys (from_entries {R = nat_cmp} (map (λ n. (n, tt {0})) numbers))

-- The digests of a transaction with this footprint, in rising order, each once: those of the rows in keyed tables that it writes, and
-- of its marks.
abbrev pub digests_of : List Table → Footprint → List ℕ
digests_of tables t = rising (map digest_of (filter (is_keyed tables) t.writes) ++ map mark_digest t.marks)
