-- The lines of tables and of rows at the start, as they are written.
use Rattle.std.specs.Prelude.{ℕ, ℤ, Bool, if◌then◌else◌, List, [], ◌∷◌, ◌++◌, map, codes, Option, Some, None}
use Rattle.std.specs.List.{flat_map}
use Rattle.std.specs.Fmt.{decimal, signed_decimal}
use Rattle.schema.specs.declared.RowId.{RowId}
use Rattle.schema.specs.declared.Table.{Table}
use Rattle.script_text.specs.Words.{Word}

-- words, each behind a space, which is 32
abbrev pub behind_spaces : List Word → List ℕ
behind_spaces words = flat_map (λ word. 32 ∷ word) words

-- whether a table has keys
abbrev pub kind_word : Bool → Word
kind_word keyed = if keyed then codes "keyed" else codes "keyless"

-- a unique column
abbrev pub unique_words : Option ℕ → List Word
unique_words None = []
unique_words (Some column) = codes "unique" ∷ decimal column ∷ []

-- the column that names a parent row, and the parent's id
abbrev pub parent_words : Option (ℕ × ℕ) → List Word
parent_words None = []
parent_words (Some link) = codes "parent" ∷ decimal link.0 ∷ decimal link.1 ∷ []

-- a table: its id, its number of columns, its kind, its unique column, and its parent
abbrev pub table_words : Table → List Word
table_words t = decimal t.id ∷ decimal t.columns ∷ kind_word t.keyed ∷ (unique_words t.unique ++ parent_words t.parent)

-- a row at the start: its table, its key, and its columns
abbrev pub base_words : RowId → List ℤ → List Word
base_words row columns = decimal row.table ∷ signed_decimal row.key ∷ map signed_decimal columns

-- their texts, behind the word that says what the line is about
unfoldable pub table_text : Table → List ℕ
table_text t = codes "table" ++ behind_spaces (table_words t)

unfoldable pub base_text : RowId → List ℤ → List ℕ
base_text row columns = codes "base" ++ behind_spaces (base_words row columns)

-- their lines; 10 is LF
abbrev pub table_line : Table → List ℕ
table_line t = table_text t ++ 10 ∷ []

abbrev pub base_line : RowId → List ℤ → List ℕ
base_line row columns = base_text row columns ++ 10 ∷ []
