-- How a script writes numbers: in decimal digits, of which the first is 0 only in 0 itself, and with a minus
-- sign before a negative number.
use Rattle.std.specs.Prelude.{◌≡◌, ℕ, ◌+◌, ◌<◌, ◌^◌, ℤ, pos, neg_ℤ, FitsSigned, Bool, false, ◌&&◌, ◌==◌, nat_lt, if◌then◌else◌, List, [], ◌∷◌, length, Option, Some, None, option_map, codes}
use Rattle.std.specs.Char.{is_ascii_digit}
use Rattle.std.specs.List.{list_all}
use Rattle.std.specs.Fmt.{decimal, signed_decimal}
use Rattle.std.specs.Int.{w64}
use Rattle.std.specs.Str.{bytes_eq}
use Rattle.std.specs.Str.Parse.{digits_value}

-- some digits, the first of them 0 only where it is the only one
abbrev pub is_number : List ℕ → Bool
is_number [] = false
is_number (c ∷ cs) = if c == 48 then length cs == 0 else list_all is_ascii_digit (c ∷ cs)

-- the number below this bound that digits write
abbrev pub digits_below : ℕ → List ℕ → Option ℕ
digits_below bound digits = if list_all is_ascii_digit digits && nat_lt (digits_value 10 digits) bound then Some (digits_value 10 digits) else None

-- the number below this bound that a text is
unfoldable pub number : ℕ → List ℕ → Option ℕ
number bound text = if is_number text && nat_lt (digits_value 10 text) bound then Some (digits_value 10 text) else None

-- the number of 64 bits with a sign that a text is; 45 is the minus sign, and nothing is -0
unfoldable pub integer : List ℕ → Option ℤ
integer [] = None
integer (c ∷ cs) =
    if c == 45 then (if bytes_eq cs (codes "0") then None else option_map (λ n. neg_ℤ (pos n)) (number (2 ^ 63 + 1) cs))
    else option_map pos (number (2 ^ 63) (c ∷ cs))

-- What is read of a text is the number below the bound that is printed so. Nothing is read only of a text that
-- no such number is printed as.
abbrev pub ReadsNumber : ℕ → List ℕ → Option ℕ → Type 0
ReadsNumber bound text (Some n) = text ≡ decimal n
ReadsNumber bound text None = (n : ℕ) → n < bound → text ≡ decimal n → ⊥

-- the same of a number of 64 bits with a sign
abbrev pub ReadsInteger : List ℕ → Option ℤ → Type 0
ReadsInteger text (Some z) = text ≡ signed_decimal z
ReadsInteger text None = (z : ℤ) → FitsSigned w64 z → text ≡ signed_decimal z → ⊥
