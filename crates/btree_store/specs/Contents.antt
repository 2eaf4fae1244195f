-- What an ordered map of rows contains.
use Rattle.std.specs.Prelude.{◌≡◌, ℤ, List, Some, FitsSigned}
use Rattle.std.proofs.Common.{w64}
use Rattle.std.specs.BTreeMap.{BTreeMap}
use Rattle.std.specs.FinMap.{from_entries, get}
use Rattle.schema.specs.declared.RowId.{RowId}
use Rattle.schema.specs.RowId.{row_cmp}
use Rattle.rows.specs.Database.{Database}

-- the map as a finite map
abbrev pub contents_of : BTreeMap RowId (List ℤ) → Database
contents_of rows = from_entries {R = row_cmp} rows.entries

-- the keys are numbers of 64 bits
abbrev pub KeysFit : Database → Type 0
KeysFit db = (id : RowId) (columns : List ℤ) → get db id ≡ Some columns → FitsSigned w64 id.key
