-- What differs between two logs.
use Rattle.std.specs.Prelude.{◌≡◌, ◌≢◌, ℕ, ◌+◌, ℤ, List, [], ◌∷◌, ◌++◌, length, codes, take, slice_get, Option, Some, None, Bool, true, false, if◌then◌else◌, ◌↔◌, IsTrue, IfSome, IfNone}
use Rattle.std.specs.Fmt.{decimal}
use Rattle.std.specs.FinMap.{get as row_of}
use Rattle.std.specs.Io.KnownBytes.{Appends}
use Rattle.std.specs.List.{flat_map}
use Rattle.std.specs.Option.{option_eq}
use Rattle.std.specs.Ordering.{int_eq}
use Rattle.std.specs.Cmp.Lexicographic.{pointwise}
use Rattle.rows.specs.Database.{Database}
use Rattle.schema.specs.declared.RowId.{RowId}
use Rattle.schema.specs.declared.Table.{Table}
use Rattle.store_trait.specs.Batch.{Entry, all_rows}
use Rattle.record_codec.specs.declared.records.Record.{Record}
use Rattle.script_text.specs.LogLines.{row_text}
use Rattle.script_text.specs.Printing.{columns_text}

-- up to this place the lists are the same, and there they are not
pub record DiffersAt (one other : List Record) (at : ℕ) : Type 0 where
  pub same : take at one ≡ take at other
  pub differs : slice_get one at ≢ slice_get other at

-- both have the same tables, records and rows
pub record AreAlike (my_tables their_tables : List Table) (my_records their_records : List Record) (my_rows their_rows : Database) : Type 0 where
  pub tables : my_tables ≡ their_tables
  pub records : my_records ≡ their_records
  pub rows : my_rows ≡ their_rows

-- whether the columns are the same, or both rows are absent
abbrev pub same_values : Option (List ℤ) → Option (List ℤ) → Bool
same_values mine theirs = option_eq (pointwise int_eq) mine theirs

-- a row's columns, or that there is none
abbrev pub row_words : Option (List ℤ) → List ℕ
row_words None = codes " none"
row_words (Some columns) = columns_text columns

-- the line of a row that is not the same; 10 is LF
abbrev pub difference_line : RowId → Option (List ℤ) → Option (List ℤ) → List ℕ
difference_line row mine theirs = row_text row ++ (codes ":" ++ (row_words mine ++ (codes " |" ++ (row_words theirs ++ 10 ∷ []))))

-- a line for a row that the other has otherwise, or has not
abbrev pub changed_line : Database → Entry → List ℕ
changed_line theirs entry =
    if same_values entry.1 (row_of theirs entry.0) then [] else difference_line entry.0 entry.1 (row_of theirs entry.0)

-- a line for a row of the other, if one has none
abbrev pub line_if_absent : Option (List ℤ) → Entry → List ℕ
line_if_absent None entry = difference_line entry.0 None entry.1
line_if_absent (Some columns) entry = []

abbrev pub added_line : Database → Entry → List ℕ
added_line mine entry = line_if_absent (row_of mine entry.0) entry

abbrev pub tables_line : Bool → List ℕ
tables_line are_same = if are_same then [] else codes "tables differ\n"

-- the first record that is not the same, counted from 1
abbrev pub record_line : Option ℕ → List ℕ
record_line None = []
record_line (Some at) = codes "first difference: record " ++ (decimal (at + 1) ++ 10 ∷ [])

abbrev pub same_line : ℕ → List ℕ
same_line count = codes "no difference in " ++ (decimal count ++ codes " records\n")

-- each row of mine that they have otherwise or have not, and then each that only they have
abbrev pub rows_text : Database → Database → List ℕ
rows_text mine theirs = flat_map (changed_line theirs) (all_rows mine) ++ flat_map (added_line mine) (all_rows theirs)

-- What is told: that the tables differ, if they do; the first record that does, if one does; and the rows that do.
pub record TellsDifferences (my_tables their_tables : List Table) (my_records their_records : List Record) (my_rows their_rows : Database) (before printed : Option (List ℕ)) : Type 0 where
  pub tables : Bool
  pub tables_are : IsTrue tables ↔ (my_tables ≡ their_tables)
  pub first : Option ℕ
  pub first_is : IfSome first (DiffersAt my_records their_records)
  pub none_is : IfNone first (my_records ≡ their_records)
  pub text : Appends before printed ((tables_line tables ++ record_line first) ++ rows_text my_rows their_rows)

-- that both are alike is told, or else what differs
abbrev pub Tells : Bool → List Table → List Table → List Record → List Record → Database → Database → Option (List ℕ) → Option (List ℕ) → Type 0
Tells true my_tables their_tables my_records their_records my_rows their_rows before printed =
    AreAlike my_tables their_tables my_records their_records my_rows their_rows × Appends before printed (same_line (length my_records))
Tells false my_tables their_tables my_records their_records my_rows their_rows before printed =
    (¬ AreAlike my_tables their_tables my_records their_records my_rows their_rows)
    × TellsDifferences my_tables their_tables my_records their_records my_rows their_rows before printed
