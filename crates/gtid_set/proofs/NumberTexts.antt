-- The texts of numbers are those that `decimal` writes, and what `parse` reads of them.
use Rattle.std.proofs.Common.{◌≡◌, ◌≢◌, ◌∙◌, sym, ap, refl, ℕ, ◌^◌, ◌<◌, ◌≤◌, Bool, true, false, not, cond, ◌&&◌, eqb, ltb, List, [], ◌∷◌, length, get_or, Result, Ok, Err, OkIff, arith, rules, zero}
use Rattle.std.proofs.Common.{suc}
use Rattle.std.specs.Char.{is_ascii_digit}
use Rattle.std.specs.List.{list_all}
use Rattle.std.specs.Str.Parse.{digits_value, ParsesUnsigned}
use Rattle.std.specs.Fmt.{decimal}
use Rattle.std.proofs.lemmas.Str.Parse.{IsNumeralModel, numerals_by_value, parse_digits}
use Rattle.std.proofs.lemmas.Fmt.{digits_decimal, digits_value-decimal, decimal_digit, decimal_nonempty, first_decimal, decimal-digits_value}
use Rattle.std.proofs.lemmas.Result.{OkIff-at_ok, OkIff-at_err}
use Rattle.std.proofs.lemmas.Bool.{ltb-true, lt-ltb, and_parts, and_from}
use Rattle.std.proofs.lemmas.Bool.Decides.{nat_tests}
use Rattle.gtid_set.specs.declared.fault.GtidFault.TheVariants.{BadNumber}
use Rattle.gtid_set.specs.Reading.{is_number, number_at}

pub own : IsNumeralModel (λ ds. list_all is_ascii_digit ds ≡ true) (digits_value 10)
own = numerals_by_value _ (search rules)

-- a text of a number, by its parts
pub record IsPlain (text : List ℕ) : Type 0 where
  pub digits : list_all is_ascii_digit text ≡ true
  pub some : 0 < length text
  pub first : get_or text 0 0 ≢ 48

not_zero : (c : ℕ) → not (eqb c 48) ≡ true → c ≢ 48
not_zero c e z = grind (arith, nat_tests)

zero_not : (c : ℕ) → c ≢ 48 → not (eqb c 48) ≡ true
zero_not c h = grind (arith, nat_tests)

pub plain_from_test : (text : List ℕ) → is_number text ≡ true → IsPlain text
plain_from_test [] e = absurd (cc)
plain_from_test (c ∷ cs) e =
    let both = and_parts (not (eqb c 48)) (list_all is_ascii_digit (c ∷ cs)) e in
    record { digits = both.1; some = omega arith; first = not_zero c both.0 }

pub test_from_plain : (text : List ℕ) → IsPlain text → is_number text ≡ true
test_from_plain [] p = absurd (omega (arith, p.some))
test_from_plain (c ∷ cs) p = and_from (not (eqb c 48)) (list_all is_ascii_digit (c ∷ cs)) (zero_not c p.first) p.digits

ok_from_cond : {F : Type 0} (b : Bool) (v n : ℕ) (f : F) → cond b (Ok v) (Err f) ≡ Ok n → (b ≡ true) × (v ≡ n)
ok_from_cond true v n f e = (refl, cc)
ok_from_cond false v n f e = absurd (cc)

plain_text : (text : List ℕ) → IsPlain text → digits_value 10 text < 2 ^ 64 → decimal (digits_value 10 text) ≡ text
plain_text text p fits = decimal-digits_value own text p.digits p.some (λ zero. absurd (p.first zero)) fits

-- the value of a text without leading zeros is not 0
some_value : (text : List ℕ) (v : ℕ) → IsPlain text → decimal v ≡ text → 1 ≤ v
some_value text zero p e = absurd (p.first (ap (λ (l : List ℕ). get_or l 0 0) (sym e ∙ decimal_digit 0 (omega arith))))
some_value text (suc v) p e = omega arith

-- what is read of a text is a number that is written so
pub number_spelled : (text : List ℕ) (n : ℕ) → number_at text ≡ Ok n → (text ≡ decimal n) × (1 ≤ n) × (n < 2 ^ 63)
unfolding number_at
number_spelled text n e =
    let v : ℕ = digits_value 10 text in
    let found : (is_number text && ltb v (2 ^ 63) ≡ true) × (v ≡ n) = ok_from_cond (is_number text && ltb v (2 ^ 63)) v n BadNumber e in
    let tests : (is_number text ≡ true) × (ltb v (2 ^ 63) ≡ true) = and_parts (is_number text) (ltb v (2 ^ 63)) found.0 in
    let below : v < 2 ^ 63 = ltb-true v (2 ^ 63) tests.1 in
    let plain : IsPlain text = plain_from_test text tests.0 in
    let written : decimal v ≡ text = plain_text text plain (omega arith) in
    (sym written ∙ ap decimal found.1, omega (arith, some_value text v plain written, found.1), omega (arith, found.1))

-- what is written of a number is read again
pub number_again : (n : ℕ) → 1 ≤ n → n < 2 ^ 63 → number_at (decimal n) ≡ Ok n
unfolding number_at
number_again n one low =
    let fits : n < 2 ^ 64 = omega arith in
    let plain : IsPlain (decimal n) = record { digits = digits_decimal own n fits; some = decimal_nonempty n fits; first = λ zero. absurd (omega (arith, first_decimal n one fits, zero)) } in
    let again : digits_value 10 (decimal n) ≡ n = digits_value-decimal own n fits in
    let below : ltb (digits_value 10 (decimal n)) (2 ^ 63) ≡ true = lt-ltb _ _ (omega arith) in
    let tests : (is_number (decimal n) && ltb (digits_value 10 (decimal n)) (2 ^ 63)) ≡ true = and_from _ _ (test_from_plain (decimal n) plain) below in
    ap (λ (b : Bool). cond b (Ok (digits_value 10 (decimal n))) (Err BadNumber)) tests ∙ ap Ok again

-- ---- what `parse` says

pub no_number : (text : List ℕ) → is_number text ≡ false → number_at text ≡ Err BadNumber
unfolding number_at
no_number text e = rw e refl

parsed_value : {E : Type 0} (text : List ℕ) (r : Result ℕ E) → ParsesUnsigned 64 10 text r → is_number text ≡ true →
    OkIff r ((0 < length text) × (digits_value 10 text < 2 ^ 64)) (digits_value 10 text)
parsed_value text r h e = parse_digits own 64 text r h (plain_from_test text e).digits

pub number_parsed : {E : Type 0} (text : List ℕ) (r : Result ℕ E) (n : ℕ) → ParsesUnsigned 64 10 text r → is_number text ≡ true → r ≡ Ok n →
    number_at text ≡ cond (ltb n (2 ^ 63)) (Ok n) (Err BadNumber)
unfolding number_at
number_parsed text r n h e is =
    let v : n ≡ digits_value 10 text = (OkIff-at_ok r _ (digits_value 10 text) n (parsed_value text r h e) is).1 in
    rw (e, v) refl

pub number_past : {E : Type 0} (text : List ℕ) (r : Result ℕ E) (f : E) → ParsesUnsigned 64 10 text r → is_number text ≡ true → r ≡ Err f → number_at text ≡ Err BadNumber
unfolding number_at
number_past text r f h e is =
    let plain = plain_from_test text e in
    let past : ltb (digits_value 10 text) (2 ^ 63) ≡ false = not_below (digits_value 10 text)
    (λ low. OkIff-at_err r _ (digits_value 10 text) f (parsed_value text r h e) is (plain.some, omega arith)) in
    rw (e, past) refl
  where
    not_below : (v : ℕ) → (v < 2 ^ 63 → ⊥) → ltb v (2 ^ 63) ≡ false
    not_below v h = grind (arith, nat_tests)
