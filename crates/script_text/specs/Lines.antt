-- Which lines of a script say what.
use Rattle.std.specs.Prelude.{◌≡◌, ℕ, ◌^◌, ℤ, Bool, true, false, ◌==◌, if◌then◌else◌, List, [], ◌∷◌, ◌++◌, length, codes, Option, Some, None, option_map}
use Rattle.std.specs.List.{All, slice_split}
use Rattle.std.specs.Str.{bytes_eq, is_utf8}
use Rattle.schema.specs.declared.RowId.{RowId}
use Rattle.schema.specs.declared.Table.{Table}
use Rattle.schema.specs.Schema.{plain_table}
use Rattle.script_text.specs.declared.lines.Line.{Line}
use Rattle.script_text.specs.declared.lines.Line.TheVariants as lines
use Rattle.script_text.specs.Words.{Word, ◌>>=◌, alone, behind_name, first_word, words_of, number_in, row_id_in, row_in}

-- whether a table of this kind has keys
abbrev pub keyed_of : Word → Option Bool
keyed_of kind = if bytes_eq kind (codes "keyed") then Some true else if bytes_eq kind (codes "keyless") then Some false else None

-- the column whose value is the parent row's key, and the parent's id
unfoldable pub link_in : List Word → Option (ℕ × ℕ)
link_in words = do
  column ← number_in (2 ^ 8) words
  table ← alone (number_in (2 ^ 16) column.1)
  Some (column.0, table)

-- what stands behind the word `parent`
abbrev pub named_parent : Option (Word × List Word) → Option (Option (ℕ × ℕ))
named_parent found = found >>= λ name. if bytes_eq name.0 (codes "parent") then option_map (λ link. Some link) (link_in name.1) else None

-- the parent of a table, where words are left
unfoldable pub reference_of : List Word → Option (Option (ℕ × ℕ))
reference_of words = if length words == 0 then Some None else named_parent (first_word words)

-- the unique column of a table, where the next word is `unique`, and the words behind it
abbrev pub column_named : Bool × List Word → Option (Option ℕ × List Word)
column_named (true, words) = option_map (λ column. (Some column.0, column.1)) (number_in (2 ^ 8) words)
column_named (false, words) = Some (None, words)

unfoldable pub unique_in : List Word → Option (Option ℕ × List Word)
unique_in words = column_named (behind_name (codes "unique") words)

-- a table: its id, its number of columns, its kind, its unique column, and its parent
unfoldable pub table_of : List Word → Option Table
table_of words = do
  id ← number_in (2 ^ 16) words
  columns ← number_in (2 ^ 8) id.1
  kind ← first_word columns.1
  keyed ← keyed_of kind.0
  unique ← unique_in kind.1
  parent ← reference_of unique.1
  Some (record (plain_table id.0 columns.0 keyed) { unique = unique.0; parent = parent })

-- a row of the base: its table, its key, and its columns
unfoldable pub base_of : List Word → Option (RowId × List ℤ)
base_of words = do
  id ← row_id_in words
  columns ← row_in id.1
  Some (id.0, columns)

-- what a line is about, and the words behind its first
pub data About : Type 0 where
  skipped : About
  table : List Word → About
  base : List Word → About
  event : Word → List Word → About

-- the same of a line that was read
abbrev pub about : Line → About
about lines.Skipped = skipped
about (lines.Table words) = table words
about (lines.Base words) = base words
about (lines.Event name words) = event name.now words

-- what the words of a line are about, by the first of them
unfoldable pub command_of : List Word → Option About
command_of words = do
  name ← first_word words
  if bytes_eq name.0 (codes "table") then Some (table name.1)
      else if bytes_eq name.0 (codes "base") then Some (base name.1)
      else Some (event name.0 name.1)

-- an empty line, or one that begins with `#`, which is 35
abbrev pub is_skipped : List ℕ → Bool
is_skipped [] = true
is_skipped (c ∷ cs) = c == 35

-- What a line is about. A comment has to be UTF-8. Any other line that says something is ASCII, since no other byte is in a name or a number.
unfoldable pub line_of : List ℕ → Option About
line_of line = if is_skipped line then (if is_utf8 line then Some skipped else None) else command_of (words_of line)

-- ---- lines of a text that is read

-- one line: it has no LF
abbrev pub IsLine : List ℕ → Type 0
IsLine line = All (λ b. (b == 10) ≡ false) line

-- the text is this line and, where there is more, these bytes behind its LF
abbrev pub LeavesLines : List ℕ → List ℕ → Bool → Option (List ℕ) → Type 0
LeavesLines text line true rest = (more : List ℕ) × (rest ≡ Some more) × (slice_split (λ b. b == 10) text ≡ line ∷ slice_split (λ b. b == 10) more)
LeavesLines text line false rest = slice_split (λ b. b == 10) text ≡ line ∷ []

-- the LF at the end was taken off; or there is none
abbrev pub TakesEnd : List ℕ → List ℕ → Bool → Type 0
TakesEnd old new true = old ≡ new ++ 10 ∷ []
TakesEnd old new false = (new ≡ old) × ((front : List ℕ) → old ≡ front ++ 10 ∷ [] → ⊥)
