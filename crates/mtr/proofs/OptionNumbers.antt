-- The number that an option has.
use Rattle.std.proofs.Common.{◌≡◌, ◌∙◌, ◌^◌, ◌<◌, ◌≤◌, ◌&&◌, ◌⊎◌, inl, inr, sym, ap, refl, arith, ℕ, Bool, true, false, nat_lt, nat_le, if◌then◌else◌, List, Option, Some, None, Result, Ok, Err}
use Rattle.std.specs.Str.Parse.{IsNumeral, ParsesUnsigned, ExplainsUnsignedError, HasUnsignedDigitsIfOk, digits_value, without_leading_plus}
use Rattle.clap.specs.Words.{Text, ReadsOne, one_text, rows_of}
use Rattle.clap.specs.ValueTests.{is_unsigned_in, is_numeral}
use Rattle.clap.specs.declared.parser.matches.Found.{Found}
use Rattle.clap.specs.declared.builder.value_parser.ValueParser.TheVariants as parsers
use Rattle.clap.proofs.ValueTestLemmas.{accepts-Accepts, Accepts-accepts}
use Rattle.std.proofs.lemmas.Bool.{le-leb, lt-leb}
use Rattle.clap.proofs.WalkLemmas.{both, one_text-rows}
use Rattle.script_text.specs.Words.{◌>>=◌}
use Rattle.mtr.specs.Options.{number_of}

-- a number of the range
abbrev pub within : ℕ → ℕ → ℕ → Option ℕ
within least greatest n = if nat_le least n && nat_le n greatest then Some n else None

abbrev number_in : ℕ → ℕ → Text → Option ℕ
number_in least greatest text = if is_unsigned_in least greatest text then Some (digits_value 10 (without_leading_plus text)) else None

abbrev IsNumber : Text → Type 0
IsNumber text = IsNumeral 10 (without_leading_plus text) × (digits_value 10 (without_leading_plus text) < 2 ^ 64)

-- a text that is a number at all
a_number : (text : Text) (n least greatest : ℕ) → IsNumber text → n ≡ digits_value 10 (without_leading_plus text) → number_in least greatest text ≡ within least greatest n
a_number text n least greatest h same =
    let all = Accepts-accepts false (parsers.Unsigned 0 18446744073709551615) text (h.0, h.1, omega arith, omega arith) in
    let numeral : is_numeral (without_leading_plus text) ≡ true = (both _ _ all).0 in
    let small : nat_lt (digits_value 10 (without_leading_plus text)) (2 ^ 64) ≡ true = (both _ _ (both _ _ all).1).0 in
    rw (same, numeral, small) refl

no_number : (text : Text) (least greatest : ℕ) (b : Bool) → is_unsigned_in least greatest text ≡ b → (IsNumber text → ⊥) → number_in least greatest text ≡ None
no_number text least greatest true is_number never =
    let h = accepts-Accepts false (parsers.Unsigned least greatest) text is_number in
    absurd (never (h.0, h.1))
no_number text least greatest false is_number never = rw is_number refl

reads : {E : Type 0} (G : List ℕ → Result ℕ E → Type 0) (least greatest : ℕ) (o : Option Text) (r : Option ℕ) → ((u : List ℕ) (x : Result ℕ E) → G u x → ParsesUnsigned 64 10 u x) →
    (o ≡ None → r ≡ None) → ((t : Text) → o ≡ Some t → ReadsOne G t r) → (o >>= number_in least greatest) ≡ (r >>= within least greatest)
reads G least greatest None r only none some = rw (none refl) refl
reads G least greatest (Some t) (Some n) only none some = let h = only t (Ok n) (some t refl) in a_number t n least greatest h.0 h.1
reads G least greatest (Some t) None only none some = let h = some t refl in no_number t least greatest (is_unsigned_in least greatest t) refl (only t (Err h.0) h.1)

-- the number of an option is what its text is read as, where that is in the range
pub number_read : (found : Found) (name : Text) (least greatest : ℕ) (r : Option ℕ) → (one_text found name ≡ None → r ≡ None) →
    ((t : Text) → one_text found name ≡ Some t → ReadsOne (λ u x. ParsesUnsigned 64 10 u x × ExplainsUnsignedError 10 u x × HasUnsignedDigitsIfOk u x) t r) →
    number_of name least greatest (rows_of found) ≡ (r >>= within least greatest)
number_read found name least greatest r none some =
    let same = one_text-rows found name in
    ap (λ o. o >>= number_in least greatest) (sym same) ∙ reads (λ u x. ParsesUnsigned 64 10 u x × ExplainsUnsignedError 10 u x × HasUnsignedDigitsIfOk u x) least greatest (one_text found name) r
    (λ u x g. g.0) none some

-- and where the number is outside
pub outside : (least greatest n : ℕ) → (n < least) ⊎ (greatest < n) → within least greatest n ≡ None
outside least greatest n (inl low) = rw (lt-leb least n low) refl
outside least greatest n (inr high) = go (nat_le least n)
  where
    go : (b : Bool) → (if b && nat_le n greatest then Some n else None) ≡ None
    go true = rw (lt-leb n greatest high) refl
    go false = refl

pub inside : (least greatest n : ℕ) → least ≤ n → n ≤ greatest → within least greatest n ≡ Some n
inside least greatest n low high = rw (le-leb least n low, le-leb n greatest high) refl
