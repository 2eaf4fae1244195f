-- Hexadecimal text: a byte is two digits, that of its high four bits first.
use Rattle.std.specs.Prelude.{◌≡◌, ℕ, ◌/◌, ◌%◌, Bool, nat_le, ◌==◌, ◌&&◌, ◌||◌, not, if◌then◌else◌, List, [], ◌∷◌, map, slice_index, codes, Option, Some, None}
use Rattle.std.specs.Char.{is_digit, digit_value}
use Rattle.std.specs.List.{filter, flat_map}

-- a digit of this value, in lower case
abbrev pub digit_text : ℕ → ℕ
digit_text d = slice_index (codes "0123456789abcdef") d

abbrev pub byte_text : ℕ → List ℕ
byte_text b = digit_text (b / 16) ∷ digit_text (b % 16) ∷ []

-- what is written of bytes
unfoldable pub hex_text : List ℕ → List ℕ
hex_text bytes = flat_map byte_text bytes

-- ---- what a text says, where whitespace may stand anywhere

-- the space, which is 32, and from 9 to 13 tab, LF, vertical tab, form feed and CR
abbrev pub is_white : ℕ → Bool
is_white c = c == 32 || (nat_le 9 c && nat_le c 13)

-- the value of a digit, in either case
abbrev pub hex_digit : ℕ → Option ℕ
hex_digit c = if is_digit c 16 then Some (digit_value c) else None

-- what each character of a text is as a digit, whitespace left out
unfoldable pub digits_read : List ℕ → List (Option ℕ)
digits_read text = map hex_digit (filter (λ c. not (is_white c)) text)

-- the two digits of each byte
abbrev pub halves : ℕ → List ℕ
halves b = b / 16 ∷ b % 16 ∷ []

unfoldable pub digits_of : List ℕ → List ℕ
digits_of bytes = flat_map halves bytes

-- all characters of the text are the digits of these bytes, in turn
abbrev pub SaysBytes : List ℕ → List ℕ → Type 0
SaysBytes text bytes = digits_read text ≡ map Some (digits_of bytes)
