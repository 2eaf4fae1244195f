-- The rule of the history of receipts, and what each step on it tells. An entry of the history is what one commit gave: the
-- receipts, and the key of the cell that the next entry brings home; the first is that of the records that were there before. Only who has that cell's pen can add it.
use Rattle.std.specs.Prelude.{ℕ, ◌≡◌, ◌≢◌, ◌-◌, ◌<◌, ◌≤◌, ◌==◌, true, List, [], ◌∷◌, ◌++◌, length, slice_get, Some}
use Rattle.std.specs.Bool.{OnTrue}
use Rattle.std.specs.List.{flat_map}
use Rattle.logbook.specs.Pages.{Cell, cell, Step, View, Book, Named, Nib, may_write, may_make}
use Rattle.record_codec.specs.declared.records.Record.{Record}
use Rattle.source_core.specs.declared.transaction.Receipt.{Receipt}
use Rattle.source_core.specs.AtLog.{owners_of}
use Rattle.source_core.specs.Calls.{receipts_for}

abbrev pub Part : Type 0
Part = ℕ × List Receipt

-- the receipts of all entries
abbrev pub receipts_in : List Part → List Receipt
receipts_in parts = flat_map (λ part. part.1) parts

-- the receipts of records that were there before the history: of no session
abbrev pub old_receipts : List Record → List Receipt
old_receipts log = receipts_for (owners_of log) log

-- the receipt is one of these, at its number
abbrev pub IsEntered : List Part → Receipt → Type 0
IsEntered parts r = (1 ≤ r.gno) × (slice_get (receipts_in parts) (r.gno - 1) ≡ Some r)

-- the key that the last entry names
abbrev pub turn_of : List Part → ℕ
turn_of [] = 0
turn_of (part ∷ []) = part.0
turn_of (part ∷ next ∷ parts) = turn_of (next ∷ parts)

-- the cell that each entry but the last names is at home
abbrev pub ArePast : List Cell → List Part → Type 0
ArePast cells [] = Unit {0}
ArePast cells (part ∷ []) = Unit {0}
ArePast cells (part ∷ next ∷ parts) = ((cell cells part.0).1 ≡ true) × ArePast cells (next ∷ parts)

-- the one word: whether the history has begun
abbrev pub begun_word : List Part → ℕ
begun_word [] = 0
begun_word (part ∷ parts) = 1

-- The cells are those of this history: the one word says whether it has begun, and each cell that an entry names is at home, but
-- that of the last.
pub record IsLedger (cells : List Cell) (log : List Part) : Type 0 where
  pub some : 0 < length cells
  pub word : cell cells 0 ≡ (begun_word log, true)
  pub past : ArePast cells log

abbrev pub head_of : Book → Named
head_of b = record { tracked = true; key = 0; book = b }

-- the pen is the right to write the cell that the last entry names
pub record IsTurn (nib : Nib) (log : List Part) : Type 0 where
  pub right : nib.right ≡ may_write
  pub key : nib.key ≡ turn_of log
  pub some : 0 < length log

-- no entry but the last names this key
abbrev pub IsNotPast : ℕ → List Part → Type 0
IsNotPast key [] = Unit {0}
IsNotPast key (part ∷ []) = Unit {0}
IsNotPast key (part ∷ next ∷ parts) = (part.0 ≢ key) × IsNotPast key (next ∷ parts)

-- a new cell, and the right to make its word
abbrev pub Reserves : Step Part → View Part ℕ → ℕ → View Part ℕ → Type 0
Reserves s v found w = w.1.0.right ≡ may_make

-- where the word was 0, the history had no entry, and has this one
abbrev pub Begins : Step Part → View Part ℕ → ℕ → View Part ℕ → Type 0
Begins s v found w = OnTrue (found == 0) (w.0 ≡ s.ask ∷ [])

-- the entry was added to all that had been seen
abbrev pub Adds : Step Part → View Part ℕ → ℕ → View Part ℕ → Type 0
Adds s v found w = w.0 ≡ v.0 ++ s.ask ∷ []

-- the pen's cell was not brought home
abbrev pub Checks : Step Part → View Part ℕ → ℕ → View Part ℕ → Type 0
Checks s v found w = (w.1.0 ≡ v.1.0) × IsNotPast v.1.0.key w.0
