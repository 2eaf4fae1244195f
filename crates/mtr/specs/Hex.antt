-- Which hexadecimal text is refused, and how it is read piece by piece.
use Rattle.std.specs.Prelude.{◌≡◌, ℕ, Bool, true, false, List, ◌++◌, map, Contains, Some, None}
use Rattle.script_text.specs.HexText.{digits_read, SaysBytes}
use Rattle.mtr.specs.declared.ending.Stop.{Stop}
use Rattle.mtr.specs.declared.ending.Stop.TheVariants as stops

-- it says no bytes: a character is no digit, or the last digit is alone
abbrev pub SaysNone : List ℕ → Type 0
SaysNone text = (bytes : List ℕ) → SaysBytes text bytes → ⊥

-- why a text is not read; nothing is said where the reading stopped otherwise
abbrev pub IsUnread : List ℕ → Stop → Type 0
IsUnread text stops.BadHexadecimal = SaysNone text
IsUnread text stops.Memory = Unit {0}
IsUnread text stops.Stream = Unit {0}
IsUnread text stop = ⊥

-- a piece more of a text whose digits so far are the old ones: its digits come behind them, or a character is none
abbrev pub GoesOnBy : List ℕ → List ℕ → Bool → List ℕ → Type 0
GoesOnBy old piece true new = map Some new ≡ map Some old ++ digits_read piece
GoesOnBy old piece false new = Contains (digits_read piece) None
