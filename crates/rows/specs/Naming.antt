-- Columns of a row that are named, and the row that has them replaced.
use Rattle.std.specs.Prelude.{◌≡◌, ℕ, ℤ, pos, ◌+◌, ◌/◌, ◌%◌, ◌^◌, ◌==◌, nat_le, nat_lt, ◌&&◌, sum_by, map, count_ones, length, is_some, slice_get, Bool, true, false, if◌then◌else◌, List, [], ◌∷◌}
use Rattle.std.specs.Prelude.{drop, slice_index_or, Option, Some, None}
use Rattle.std.specs.Option.{option_map}
use Rattle.std.specs.Int.{bit_at}

-- Bit c of the mask names column c. There is a value for each named column, that of the lowest first.
pub record NamedColumns : Type 0 where
  pub mask : ℕ
  pub values : List ℤ

abbrev pub names_column : ℕ → ℕ → Bool
names_column mask column = bit_at mask column == 1

-- the columns of these pairs strictly rise, the first of them being at least this one, and are at most 15
abbrev pub rise_from : ℕ → List (ℕ × ℤ) → Bool
rise_from least [] = true
rise_from least (pair ∷ pairs) = nat_le least pair.0 && nat_lt pair.0 16 && rise_from (pair.0 + 1) pairs

-- the columns of these pairs, each with its value
abbrev pub naming_from : List (ℕ × ℤ) → NamedColumns
naming_from pairs = record { mask = sum_by (λ pair. 2 ^ pair.0) pairs; values = map (λ pair. pair.1) pairs }

-- the columns with the named ones replaced, from one column on: the mask begins there, and the values are those
-- that are left; none where a column is named that is not there
abbrev pub assigned_from : ℕ → List ℤ → List ℤ → Option (List ℤ)
assigned_from mask values [] = if mask == 0 then Some [] else None
assigned_from mask values (column ∷ columns) =
    if mask % 2 == 1 then option_map (λ rest. slice_index_or values 0 (pos 0) ∷ rest) (assigned_from (mask / 2) (drop 1 values) columns)
    else option_map (λ rest. column ∷ rest) (assigned_from (mask / 2) values columns)

-- the columns of a row with the named ones replaced, where it has each of them
abbrev pub assigned : NamedColumns → List ℤ → Option (List ℤ)
assigned named columns = assigned_from named.mask named.values columns

-- an update fits a row that has each column named
abbrev pub AssignsWhatIsThere : Type 0
AssignsWhatIsThere = (named : NamedColumns) (columns : List ℤ) → is_some (assigned named columns) ≡ nat_lt named.mask (2 ^ length columns)

-- the row has as many columns as before
abbrev pub KeepsWidth : Type 0
KeepsWidth = (named : NamedColumns) (columns new : List ℤ) → assigned named columns ≡ Some new → length new ≡ length columns

-- the columns that are not named stay
abbrev pub OthersStay : Type 0
OthersStay = (named : NamedColumns) (columns new : List ℤ) (c : ℕ) →
    assigned named columns ≡ Some new → names_column named.mask c ≡ false → slice_get new c ≡ slice_get columns c

-- a named column takes its value, which stands behind those of the lower columns named
abbrev pub NamedTakeTheirs : Type 0
NamedTakeTheirs = (named : NamedColumns) (columns new : List ℤ) (c : ℕ) →
    length named.values ≡ count_ones named.mask → assigned named columns ≡ Some new → names_column named.mask c ≡ true →
    slice_get new c ≡ slice_get named.values (count_ones (named.mask % 2 ^ c))
