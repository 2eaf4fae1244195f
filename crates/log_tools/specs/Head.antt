-- What a log is written over, as text, and what such a text says.
use Rattle.std.specs.Prelude.{◌≡◌, ◌⊎◌, ℕ, ◌+◌, ℤ, ◌==◌, if◌then◌else◌, List, [], ◌∷◌, ◌++◌, map, length, codes, Option, Some, None, Result, Ok, Err, IsPermutation}
use Rattle.std.specs.List.{flat_map, slice_split, IsDistinct}
use Rattle.std.specs.Map.{keys_of}
use Rattle.std.specs.Option.{option_map_or}
use Rattle.uuid.specs.Text.{hyphenated_text, lower, parsed}
use Rattle.schema.specs.declared.RowId.{RowId}
use Rattle.schema.specs.declared.SchemaFault.{SchemaFault}
use Rattle.schema.specs.declared.Table.{Table}
use Rattle.schema.specs.RowId.{same_row}
use Rattle.schema.specs.Schema.{schema_fault}
use Rattle.store_trait.specs.Batch.{Entry}
use Rattle.store_trait.specs.Fits.{Fits}
use Rattle.store_trait.specs.Operation.{loaded}
use Rattle.script_text.specs.Heads.{table_line, base_line}
use Rattle.script_text.specs.Words.{◌>>=◌}
use Rattle.script_text.specs.Lines.{About, skipped, table, base, event, table_of, base_of, line_of}
use Rattle.log_tools.specs.declared.describing.Said.{Said}
use Rattle.log_tools.specs.declared.describing.HeadFault.{HeadFault}
use Rattle.log_tools.specs.declared.describing.HeadFault.TheVariants as faults

-- the line of an identifier
abbrev pub source_line : List ℕ → List ℕ
source_line source = codes "source " ++ (hyphenated_text lower source ++ 10 ∷ [])

-- a line for each table
abbrev pub tables_text : List Table → List ℕ
tables_text tables = flat_map table_line tables

-- the line of a row that is there
abbrev pub row_line : RowId → Option (List ℤ) → List ℕ
row_line row None = []
row_line row (Some columns) = base_line row columns

abbrev pub entry_line : Entry → List ℕ
entry_line entry = row_line entry.0 entry.1

-- a line for each row
abbrev pub entries_text : List Entry → List ℕ
entries_text entries = flat_map entry_line entries

-- ---- what lines say

-- tables, and then rows
pub record HeadLines : Type 0 where
  pub tables : List Table
  pub rows : List (RowId × List ℤ)

abbrev pub no_lines : HeadLines
no_lines = record { tables = []; rows = [] }

abbrev pub said : Said → HeadLines
said s = record { tables = s.tables.items; rows = s.rows.items }

-- a line more, about this: all tables come before the first row, and nothing happens
unfoldable pub added : HeadLines → About → Option HeadLines
added h skipped = Some h
added h (table words) = do
  one ← table_of words
  if length h.rows == 0 then Some (record h { tables = h.tables ++ one ∷ [] }) else None
added h (base words) = do
  row ← base_of words
  Some (record h { rows = h.rows ++ row ∷ [] })
added h (event name words) = None

-- what a line makes of what was said before it, if it may come there
abbrev pub said_with : HeadLines → List ℕ → Option HeadLines
said_with h line = line_of line >>= added h

-- the lines from this number on, after what was said before them: all that is said, or the number of the first bad line
unfoldable pub said_by : HeadLines → ℕ → List (List ℕ) → Result HeadLines ℕ
said_by h n [] = Ok h
said_by h n (line ∷ rest) = option_map_or (λ more. said_by more (n + 1) rest) (said_with h line) (Err n)

-- the lines of a text; LF is 10, and what stands after the last one is a line too
abbrev pub lines_of : List ℕ → List (List ℕ)
lines_of text = slice_split (λ b. b == 10) text

-- what a text says, line by line
abbrev pub head_lines : List ℕ → Result HeadLines ℕ
head_lines text = said_by no_lines 1 (lines_of text)

-- the row is there
abbrev pub present : RowId × List ℤ → Entry
present row = (row.0, Some row.1)

-- The text says these tables, and these rows, in some order.
pub record SaysHead (text : List ℕ) (tables : List Table) (rows : List Entry) : Type 0 where
  pub lines : HeadLines
  pub are : head_lines text ≡ Ok lines
  pub tables_are : tables ≡ lines.tables
  pub rows_are : IsPermutation (map present lines.rows) rows

-- The first line of the text says the identifier, and those after it the tables and the rows.
pub record SaysLog (text source : List ℕ) (tables : List Table) (rows : List Entry) : Type 0 where
  pub word : List ℕ
  pub rest : List ℕ
  pub split : text ≡ (codes "source " ++ word) ++ 10 ∷ rest
  pub source_is : parsed word ≡ Some source
  pub head : SaysHead rest tables rows

-- ---- why lines are no head

-- all lines are good, and their tables are refused so
pub record HasBadTables (text : List ℕ) (fault : SchemaFault) : Type 0 where
  pub lines : HeadLines
  pub are : head_lines text ≡ Ok lines
  pub is_fault : schema_fault lines.tables ≡ Some fault

-- two rows are one
abbrev pub HasRowTwice : List (RowId × List ℤ) → Type 0
HasRowTwice rows = ¬ IsDistinct same_row (keys_of (map present rows))

-- the rows do not fit the tables
pub record DoNotFit (lines : HeadLines) : Type 0 where
  pub rows : List Entry
  pub are : IsPermutation (map present lines.rows) rows
  pub misfit : ¬ Fits lines.tables (loaded rows)

-- all lines are good, and so are their tables, and their rows are refused
pub record HasBadRows (text : List ℕ) : Type 0 where
  pub lines : HeadLines
  pub are : head_lines text ≡ Ok lines
  pub tables : schema_fault lines.tables ≡ None
  pub cause : HasRowTwice lines.rows ⊎ DoNotFit lines

-- a bad line is told first, and then tables
abbrev pub IsHeadFault : List ℕ → HeadFault → Type 0
IsHeadFault text (faults.Line n) = head_lines text ≡ Err n
IsHeadFault text (faults.Schema fault) = HasBadTables text fault
IsHeadFault text faults.Base = HasBadRows text
IsHeadFault text faults.Memory = Unit {0}

-- why there is no store of the rows
abbrev pub GetsNoStore : List Table → List Entry → HeadFault → Type 0
GetsNoStore tables rows faults.Memory = Unit {0}
GetsNoStore tables rows faults.Base = ¬ Fits tables (loaded rows)
GetsNoStore tables rows (faults.Line n) = ⊥
GetsNoStore tables rows (faults.Schema fault) = ⊥

-- ---- what private functions say

-- all lines were taken, or those before a bad one
abbrev pub Reads : List ℕ → Result Said HeadFault → Type 0
Reads text (Ok s) = head_lines text ≡ Ok (said s)
Reads text (Err (faults.Line n)) = head_lines text ≡ Err n
Reads text (Err (faults.Schema fault)) = ⊥
Reads text (Err faults.Base) = ⊥
Reads text (Err faults.Memory) = Unit {0}

-- a schema's fault as one of a head
abbrev pub IsOfSchema : SchemaFault → HeadFault → Type 0
IsOfSchema fault told = (told ≡ faults.Memory) ⊎ (told ≡ faults.Schema fault)
