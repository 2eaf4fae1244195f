-- What is written of bytes as hexadecimal text says these bytes.
use Rattle.std.proofs.Common.{◌≡◌, ◌∙◌, ap, refl, ℕ, zero, suc, ◌+◌, ◌/◌, ◌%◌, ◌<◌, ◌≤◌, Bool, true, false, cond, not, ◌&&◌, eqb, ltb, List, [], ◌∷◌, ◌++◌, get_or, map, Option, Some, None}
use Rattle.std.proofs.Common.{arith, inl, inr, lt-ltb}
use Rattle.std.specs.Char.{digit_value}
use Rattle.std.specs.List.{list_all, range_with_len, filter}
use Rattle.std.proofs.lemmas.Bool.{eqb-true, and_parts, not-true}
use Rattle.std.proofs.lemmas.Bool.Decides.{eqb_tells}
use Rattle.std.proofs.lemmas.List.{map-append}
use Rattle.std.proofs.lemmas.List.Elements.{filter-append}
use Rattle.script_text.specs.HexText.{digit_text, byte_text, hex_text, is_white, hex_digit, digits_read, halves, digits_of, SaysBytes}

pub nothing_read : digits_read [] ≡ []
unfolding digits_read
nothing_read = refl

pub digits_behind : (text more : List ℕ) → digits_read (text ++ more) ≡ digits_read text ++ digits_read more
unfolding digits_read
digits_behind text more =
    ap (map hex_digit) (filter-append (λ c. not (is_white c)) text more) ∙ map-append hex_digit (filter (λ c. not (is_white c)) text) (filter (λ c. not (is_white c)) more)

pub one_digit : (c : ℕ) (digit : Option ℕ) → is_white c ≡ false → hex_digit c ≡ digit → digits_read (c ∷ []) ≡ digit ∷ []
unfolding digits_read
one_digit c digit e h = rw e (ap (λ d. d ∷ []) h)

-- the character of a digit is read as this digit
abbrev is_back : ℕ → Bool
is_back d = not (is_white (digit_text d)) && eqb (digit_value (digit_text d)) d

all_back : list_all is_back (range_with_len 0 16) ≡ true
all_back = refl

in_range : (p : ℕ → Bool) (a n d : ℕ) → list_all p (range_with_len a n) ≡ true → a ≤ d → d < a + n → p d ≡ true
in_range p a zero d all low high = absurd (omega arith)
in_range p a (suc n) d all low high =
    let parts : (p a ≡ true) × (list_all p (range_with_len (a + 1) n) ≡ true) = and_parts (p a) (list_all p (range_with_len (a + 1) n)) all in
    elim (eqb_tells d a) [
      | inl w ↦ ap p w.1 ∙ parts.0
      | inr w ↦ in_range p (a + 1) n d parts.1 (omega arith) (omega arith)
    ]

digit_back : (d : ℕ) → d < 16 → digits_read (digit_text d ∷ []) ≡ Some d ∷ []
digit_back d below =
    let tests : (not (is_white (digit_text d)) ≡ true) × (eqb (digit_value (digit_text d)) d ≡ true) = and_parts _ _ (in_range is_back 0 16 d all_back (omega arith) (omega arith)) in
    let value : digit_value (digit_text d) ≡ d = eqb-true _ _ tests.1 in
    let low : ltb (digit_value (digit_text d)) 16 ≡ true = lt-ltb _ _ (omega arith) in
    one_digit (digit_text d) (Some d) (not-true _ tests.0) (ap (λ b. cond b (Some (digit_value (digit_text d))) None) low ∙ ap Some value)

byte_back : (b : ℕ) → b < 256 → digits_read (byte_text b) ≡ map Some (halves b)
byte_back b below =
    digits_behind (digit_text (b / 16) ∷ []) (digit_text (b % 16) ∷ [])
    ∙ ap (λ l. l ++ digits_read (digit_text (b % 16) ∷ [])) (digit_back (b / 16) (omega arith))
    ∙ ap (λ l. Some (b / 16) ∷ l) (digit_back (b % 16) (omega arith))

pub text_says : (bytes : List ℕ) → ((k : ℕ) → get_or bytes k 0 < 256) → SaysBytes (hex_text bytes) bytes
unfolding hex_text digits_of
text_says [] low = nothing_read
text_says (b ∷ bytes) low =
    digits_behind (byte_text b) (hex_text bytes)
    ∙ ap (λ l. l ++ digits_read (hex_text bytes)) (byte_back b (low 0))
    ∙ ap (λ l. map Some (halves b) ++ l) (text_says bytes (λ k. low (suc k)))
