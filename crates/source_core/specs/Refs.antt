-- The refs and the marks of a record: the kin and the marks of its changes, in order.
use Rattle.std.specs.Prelude.{List, map}
use Rattle.std.specs.FinMap.{from_entries, keys}
use Rattle.std.specs.declared.cmp.Ordering.{Ordering}
use Rattle.schema.specs.declared.RowId.{RowId}
use Rattle.schema.specs.RowId.{row_cmp}

-- these keys in rising order, each once
unfoldable pub rising_by : {K : Type 0} (R : K → K → Ordering) → List K → List K
rising_by R ks = keys (from_entries {R = R} (map (λ k. (k, tt {0})) ks))

-- these rows, or marks
abbrev pub rising : List RowId → List RowId
rising rows = rising_by row_cmp rows
