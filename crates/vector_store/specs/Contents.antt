-- What a list of rows contains, and when it is in order.
use Rattle.std.specs.Prelude.{◌≡◌, ℤ, List, [], ◌∷◌}
use Rattle.std.specs.declared.cmp.Ordering.TheVariants.{Less}
use Rattle.std.specs.List.{AllByRecursion}
use Rattle.std.specs.FinMap.{from_entries}
use Rattle.schema.specs.declared.RowId.{RowId}
use Rattle.schema.specs.RowId.{row_cmp}
use Rattle.rows.specs.Database.{Database}

-- a row with its id
abbrev pub KeyedRow : Type 0
KeyedRow = RowId × List ℤ

-- the list as a finite map
abbrev pub contents_of : List KeyedRow → Database
contents_of rows = from_entries {R = row_cmp} rows

-- each of these is before the id, or behind it
abbrev pub AreBefore : {X : Type 0} → List (RowId × X) → RowId → Type 0
AreBefore rows id = AllByRecursion (λ row. row_cmp row.0 id ≡ Less) rows

abbrev pub AreBehind : {X : Type 0} → RowId → List (RowId × X) → Type 0
AreBehind id rows = AllByRecursion (λ row. row_cmp id row.0 ≡ Less) rows

-- the row ids strictly rise, so that no row comes twice
abbrev pub AreInOrder : {X : Type 0} → List (RowId × X) → Type 0
AreInOrder [] = Unit {0}
AreInOrder (row ∷ rows) = AreBehind row.0 rows × AreInOrder rows
