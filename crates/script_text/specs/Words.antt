-- The words of a line, and the numbers, row ids and rows that they are.
use Rattle.std.specs.Prelude.{◌≡◌, ℕ, ◌+◌, min, ◌^◌, ℤ, ◌==◌, ◌&&◌, nat_le, if◌then◌else◌, ◌≤◌, ◌<◌, Bool, true, false, List, [], ◌∷◌, ◌++◌, count_ones, length, take, Option, Some, None}
use Rattle.std.specs.Str.{bytes_eq}
use Rattle.std.specs.Option.{option_map_or}
use Rattle.std.specs.Borrow.{Bor}
use Rattle.std.specs.List.{slice_split}
use Rattle.schema.specs.declared.RowId.{RowId}
use Rattle.rows.specs.Naming.{NamedColumns, rise_from, naming_from}
use Rattle.script_text.specs.Number.{number, integer}

abbrev pub Word : Type 0
Word = List ℕ

-- what stands between single spaces; 32 is the space
abbrev pub words_of : List ℕ → List Word
words_of line = slice_split (λ b. b == 32) line

abbrev pub words_left : Option (Bor (List ℕ)) → List Word
words_left None = []
words_left (Some text) = words_of text.now

infixl 10 ◌>>=◌
abbrev pub ◌>>=◌ : {A B : Type 0} → Option A → (A → Option B) → Option B
None >>= f = None
(Some x) >>= f = f x

-- the first word, and the words behind it
abbrev pub first_word : List Word → Option (Word × List Word)
first_word [] = None
first_word (word ∷ words) = Some (word, words)

-- whether the first word is this name, and the words behind it; where it is not, all of them
abbrev pub behind_name : Word → List Word → Bool × List Word
behind_name name words = option_map_or (λ found. if bytes_eq found.0 name then (true, found.1) else (false, words)) (first_word words) (false, words)

-- what was read, where nothing stands behind it
abbrev pub alone : {A : Type 0} → Option (A × List Word) → Option A
alone found = found >>= λ x. if length x.1 == 0 then Some x.0 else None

-- a number below the bound, and the words behind it
unfoldable pub number_in : ℕ → List Word → Option (ℕ × List Word)
number_in bound words = do
  word ← first_word words
  n ← number bound word.0
  Some (n, word.1)

-- a number with a sign
unfoldable pub integer_in : List Word → Option (ℤ × List Word)
integer_in words = do
  word ← first_word words
  z ← integer word.0
  Some (z, word.1)

-- a table and a key
unfoldable pub row_id_in : List Word → Option (RowId × List Word)
row_id_in words = do
  table ← number_in (2 ^ 16) words
  key ← integer_in table.1
  Some (record { table = table.0; key = key.0 }, key.1)

-- what each of the words is read as, where all of them are
unfoldable pub all_in : {A : Type 0} → (Word → Option A) → List Word → Option (List A)
all_in read [] = Some []
all_in read (word ∷ words) = do
  x ← read word
  xs ← all_in read words
  Some (x ∷ xs)

-- a row of one to sixteen columns, to the end of the line
unfoldable pub row_in : List Word → Option (List ℤ)
row_in words = do
  columns ← all_in integer words
  if nat_le 1 (length columns) && nat_le (length columns) 16 then Some columns else None

-- what stands on either side of the one `=` of a word; 61 is `=`
unfoldable pub sides_of : Word → Option (Word × Word)
sides_of word = do
  left ← first_word (slice_split (λ b. b == 61) word)
  right ← alone (first_word left.1)
  Some (left.0, right)

-- a column and its value, `COL=V`
unfoldable pub assignment : Word → Option (ℕ × ℤ)
assignment word = do
  sides ← sides_of word
  column ← number (2 ^ 8) sides.0
  value ← integer sides.1
  Some (column, value)

-- at least one column with its value, to the end of the line; the columns strictly rise, and are at most 15
unfoldable pub naming_in : List Word → Option NamedColumns
naming_in words = do
  pairs ← all_in assignment words
  if nat_le 1 (length pairs) && rise_from 0 pairs then Some (naming_from pairs) else None

-- the first of these items are what all of the words are read as; nothing is told only where the words are no
-- such list or one of more items
abbrev pub AreAll : {A : Type 0} → (Word → Option A) → List Word → List A → Option ℕ → Type 0
AreAll read words items (Some count) = (count ≤ length items) × (all_in read words ≡ Some (take count items))
AreAll {A} read words items None = (all : List A) → all_in read words ≡ Some all → length items < length all

-- in a list of this length and capacity there is room for a column of each word, or for sixteen
abbrev pub HasRoom : List Word → ℕ → ℕ → Type 0
HasRoom words len capacity = len + min 16 (length words) ≤ capacity

-- a row stands behind other columns, and how many it has is told; where there is no row some numbers may stand there
abbrev pub PutsNumbers : Option (List ℤ) → List ℤ → List ℤ → Option ℕ → Type 0
PutsNumbers row old new (Some count) = (own : List ℤ) × (row ≡ Some own) × (new ≡ old ++ own) × (1 ≤ count) × (count ≤ 16) × (count ≡ length own)
PutsNumbers row old new None = (some : List ℤ) × (row ≡ None) × (new ≡ old ++ some)

-- and so do the values of named columns, one for each bit of the mask that is told
abbrev pub PutsValues : Option NamedColumns → List ℤ → List ℤ → Option ℕ → Type 0
PutsValues naming old new (Some mask) = (own : List ℤ) × (naming ≡ Some (record { mask = mask; values = own })) × (new ≡ old ++ own) × (1 ≤ mask) × (count_ones mask ≡ length own)
PutsValues naming old new None = (some : List ℤ) × (naming ≡ None) × (new ≡ old ++ some)

-- the same where nothing stands there of what is no row,
abbrev pub PutsRow : Option (List ℤ) → Option ℕ → List ℤ → List ℤ → Type 0
PutsRow row (Some count) old new = PutsNumbers row old new (Some count)
PutsRow row None old new = (row ≡ None) × (new ≡ old)

-- or names no columns
abbrev pub PutsNamed : Option NamedColumns → Option ℕ → List ℤ → List ℤ → Type 0
PutsNamed naming (Some mask) old new = PutsValues naming old new (Some mask)
PutsNamed naming None old new = (naming ≡ None) × (new ≡ old)
