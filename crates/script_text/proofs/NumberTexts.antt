-- The texts of numbers are those that `decimal` writes, and what is read of them.
use Rattle.std.proofs.Common.{◌≡◌, ◌∙◌, sym, ap, refl, ℕ, ◌+◌, ◌^◌, ◌<◌, ◌≤◌, ℤ, pos, ◌-◌, ◌*◌, Bool, true, false, cond, ◌&&◌, eqb, leb, ltb, take}
use Rattle.std.proofs.Common.{List, [], ◌∷◌, length, get_or, Option, Some, None, Result, Ok, Err}
use Rattle.std.proofs.Common.{OkIff, arith, inl, inr, ◌⊎◌, zero, suc, neg_ℤ, negsuc, ◌-ℤ◌, codes, ◌≢◌, FitsSigned}
use Rattle.std.specs.Char.{digit_value, is_ascii_digit}
use Rattle.std.specs.List.{list_all}
use Rattle.std.specs.Result.{result_ok}
use Rattle.std.specs.Option.{option_map, SomeIff}
use Rattle.std.specs.Str.{bytes_eq}
use Rattle.std.specs.Int.{w64}
use Rattle.std.specs.Str.Parse.{digits_value}
use Rattle.std.specs.Fmt.{decimal, signed_decimal}
use Rattle.std.proofs.lemmas.Str.{digit_value_digit}
use Rattle.std.proofs.lemmas.Str.Parse.{digits_value-take-le}
use Rattle.std.proofs.lemmas.Int.Digits.{digits_value_more}
use Rattle.std.proofs.lemmas.List.Folds.{list_all_more, list_all_at}
use Rattle.std.proofs.lemmas.Fmt.{digits_decimal, digits_value-decimal, decimal_digit, decimal_nonempty, first_decimal, decimal-digits_value}
use Rattle.std.proofs.lemmas.Bool.{eqb-true, eq-eqb, ne_eqb, ltb-true, lt-ltb, and_parts, and_from, false_from_ne_true}
use Rattle.std.proofs.lemmas.Bool.Decides.{nat_tests, eqb_tells}
use Rattle.std.proofs.lemmas.Int.{ints}
use Rattle.std.proofs.lemmas.Option.{cond_some}
use Rattle.std.proofs.lemmas.Slice.Eq.{bytes_eq-Decides}
use Rattle.schema.proofs.Lists.{made_of}
use Rattle.gtid_set.proofs.NumberTexts.{own}
use Rattle.script_text.specs.Number.{is_number, number, integer, digits_below, ReadsNumber, ReadsInteger}

-- a text of a number, by its parts
pub record IsPlain (text : List ℕ) : Type 0 where
  pub digits : list_all is_ascii_digit text ≡ true
  pub some : 0 < length text
  pub first : get_or text 0 0 ≡ 48 → length text ≡ 1

chosen : (b x y : Bool) → cond b x y ≡ true → ((b ≡ true) × (x ≡ true)) ⊎ ((b ≡ false) × (y ≡ true))
chosen true x y e = inl (refl, e)
chosen false x y e = inr (refl, e)

all_of_none : (cs : List ℕ) → length cs ≡ 0 → list_all is_ascii_digit cs ≡ true
all_of_none [] e = refl
all_of_none (c ∷ cs) e = absurd (omega arith)

alone : (c : ℕ) (cs : List ℕ) → c ≡ 48 → length cs ≡ 0 → list_all is_ascii_digit (c ∷ cs) ≡ true
alone c cs e n = rw (e, all_of_none cs n) refl

pub plain_from_test : (text : List ℕ) → is_number text ≡ true → IsPlain text
plain_from_test [] e = cc
plain_from_test (c ∷ cs) e =
    elim (chosen (eqb c 48) (eqb (length cs) 0) (list_all is_ascii_digit (c ∷ cs)) e) [
      | inl w ↦
          let zero : c ≡ 48 = eqb-true c 48 w.0 in
          let none : length cs ≡ 0 = eqb-true (length cs) 0 w.1 in
          record { digits = alone c cs zero none; some = omega arith; first = λ _. omega arith }
      | inr w ↦ record { digits = w.1; some = omega arith; first = λ zero. absurd (grind (arith, nat_tests)) }
    ]

pub test_from_plain : (text : List ℕ) → IsPlain text → is_number text ≡ true
test_from_plain [] p = absurd (omega (arith, p.some))
test_from_plain (c ∷ cs) p =
    elim (eqb_tells c 48) [
      | inl w ↦ let none : eqb (length cs) 0 ≡ true = eq-eqb _ _ (omega (arith, p.first w.1)) in rw w.0 none
      | inr w ↦ rw w.0 p.digits
    ]

-- the text of a number below a bound is what `decimal` writes of it
pub number_spelled : (bound : ℕ) (text : List ℕ) (n : ℕ) → bound ≤ 2 ^ 64 → number bound text ≡ Some n → (text ≡ decimal n) × (n < bound)
unfolding number
number_spelled bound text n low e =
    let v : ℕ = digits_value 10 text in
    let found : (is_number text && ltb v bound ≡ true) × (v ≡ n) = cond_some _ v n e in
    let tests : (is_number text ≡ true) × (ltb v bound ≡ true) = and_parts _ _ found.0 in
    let below : v < bound = ltb-true v bound tests.1 in
    let plain : IsPlain text = plain_from_test text tests.0 in
    let written : decimal v ≡ text = decimal-digits_value own text plain.digits plain.some plain.first (omega arith) in
    (sym written ∙ ap decimal found.1, omega (arith, found.1))

zero_alone : (n : ℕ) → n < 2 ^ 64 → get_or (decimal n) 0 0 ≡ 48 → length (decimal n) ≡ 1
zero_alone zero h z = ap length (decimal_digit 0 (omega arith))
zero_alone (suc n) h z =
    let more : 48 < get_or (decimal (suc n)) 0 0 = first_decimal (suc n) (omega arith) h in absurd (omega arith)

-- what `decimal` writes of a number below a bound is its text
pub number_again : (bound n : ℕ) → bound ≤ 2 ^ 64 → n < bound → number bound (decimal n) ≡ Some n
unfolding number
number_again bound n low h =
    let fits : n < 2 ^ 64 = omega arith in
    let plain : IsPlain (decimal n) = record { digits = digits_decimal own n fits; some = decimal_nonempty n fits; first = zero_alone n fits } in
    let test : is_number (decimal n) ≡ true = test_from_plain (decimal n) plain in
    let again : digits_value 10 (decimal n) ≡ n = digits_value-decimal own n fits in
    let below : ltb (digits_value 10 (decimal n)) bound ≡ true = lt-ltb _ _ (omega arith) in
    let tests : (is_number (decimal n) && ltb (digits_value 10 (decimal n)) bound) ≡ true = and_from _ _ test below in
    ap (λ (b : Bool). cond b (Some (digits_value 10 (decimal n))) None) tests ∙ ap Some again

-- what is `Ok` exactly where a test passes
ok_by_test : {T E : Type 0} (r : Result T E) (b : Bool) (P : Type 0) (v : T) → OkIff r P v → (b ≡ true → P) → (P → b ≡ true) → result_ok r ≡ cond b (Some v) None
ok_by_test (Ok x) true P v h to from = ap Some h.1
ok_by_test (Ok x) false P v h to from = let bad : false ≡ true = from h.0 in cc
ok_by_test (Err e) true P v h to from = absurd (h (to refl))
ok_by_test (Err e) false P v h to from = refl

-- ---- what is read of a text, byte by byte

-- one digit more
pub digit_more : (digits : List ℕ) (i value d : ℕ) → i < length digits → d ≡ get_or digits i 0 → is_ascii_digit d ≡ true → value ≡ digits_value 10 (take i digits) →
    digits_value 10 (take (i + 1) digits) ≡ value * 10 + (d - 48)
digit_more digits i value d below is digit so_far =
    let parts = and_parts (leb 48 d) (leb d 57) digit in
    let low : 48 ≤ d = grind (arith, nat_tests, parts.0) in
    let high : d ≤ 57 = grind (arith, nat_tests, parts.1) in
    let own : digit_value d + 48 ≡ d = digit_value_digit d (low, omega (arith, high)) in
    digits_value_more 10 digits i below
    ∙ ap (λ v. v * 10 + digit_value (get_or digits i 0)) (sym so_far)
    ∙ ap (λ x. value * 10 + digit_value x) (sym is)
    ∙ ap (λ x. value * 10 + x) (omega (arith, own))

pub digits_more : (digits : List ℕ) (i d : ℕ) → i < length digits → d ≡ get_or digits i 0 → is_ascii_digit d ≡ true → list_all is_ascii_digit (take i digits) ≡ true →
    list_all is_ascii_digit (take (i + 1) digits) ≡ true
digits_more digits i d below is digit so_far = list_all_more is_ascii_digit digits i 0 below ∙ and_from _ _ so_far (ap is_ascii_digit (sym is) ∙ digit)

-- a byte that is no digit
pub no_digit : (bound : ℕ) (digits : List ℕ) (i d : ℕ) → i < length digits → d ≡ get_or digits i 0 → is_ascii_digit d ≡ false → None ≡ digits_below bound digits
no_digit bound digits i d below is digit = rw (list_all_at is_ascii_digit digits i 0 below (ap is_ascii_digit (sym is) ∙ digit)) refl

cond_none : {A : Type 0} (b : Bool) (x : A) → None ≡ cond (b && false) (Some x) None
cond_none true x = refl
cond_none false x = refl

-- a beginning that is past the bound
pub digits_past : (bound : ℕ) (digits : List ℕ) (i : ℕ) → (digits_value 10 (take i digits) < bound → ⊥) → None ≡ digits_below bound digits
digits_past bound digits i past =
    let grows : digits_value 10 (take i digits) ≤ digits_value 10 digits = digits_value-take-le 10 digits i (omega arith) in
    let high : ltb (digits_value 10 digits) bound ≡ false = grind (arith, nat_tests, past, grows) in
    rw high (cond_none (list_all is_ascii_digit digits) (digits_value 10 digits))

-- all are read
pub digits_read : (bound : ℕ) (digits : List ℕ) (value : ℕ) → list_all is_ascii_digit digits ≡ true → value ≡ digits_value 10 digits → value < bound → Some value ≡ digits_below bound digits
digits_read bound digits value all is below =
    let fits : ltb (digits_value 10 digits) bound ≡ true = lt-ltb _ _ (omega (arith, is, below)) in
    ap Some is ∙ rw (all, fits) refl

-- a text that begins with another byte than 0
pub plain_read : (bound : ℕ) (text rest : List ℕ) (c : ℕ) → text ≡ c ∷ rest → c ≢ 48 → digits_below bound text ≡ number bound text
unfolding number
plain_read bound text rest c is other =
    let no : eqb c 48 ≡ false = ne_eqb c 48 other in
    ap (digits_below bound) is ∙ rw no refl ∙ ap (number bound) (sym is)

pub zero_read : (bound : ℕ) (text rest : List ℕ) (c : ℕ) → 0 < bound → text ≡ c ∷ rest → c ≡ 48 → rest ≡ [] → Some 0 ≡ number bound text
unfolding number
zero_read bound text rest c some is nought none =
    let fits : ltb 0 bound ≡ true = lt-ltb 0 bound some in
    rw fits refl ∙ ap (number bound) (sym (is ∙ ap (λ x. x ∷ rest) nought ∙ ap (λ l. 48 ∷ l) none))

pub padded_read : (bound : ℕ) (text rest : List ℕ) (c : ℕ) → text ≡ c ∷ rest → c ≡ 48 → 0 < length rest → None ≡ number bound text
unfolding number
padded_read bound text rest c is nought some =
    let more : eqb (length rest) 0 ≡ false = ne_eqb (length rest) 0 (λ e. absurd (omega (arith, e, some))) in
    rw more refl ∙ ap (number bound) (sym (is ∙ ap (λ x. x ∷ rest) nought))

pub nothing_left : (rest : List ℕ) → true ≡ eqb (length rest) 0 → rest ≡ []
nothing_left [] e = refl
nothing_left (c ∷ cs) e = absurd (grind (arith, nat_tests))

pub some_left : (rest : List ℕ) → false ≡ eqb (length rest) 0 → 0 < length rest
some_left [] e = cc
some_left (c ∷ cs) e = omega arith

pub nothing_signed : (text : List ℕ) → length text ≡ 0 → None ≡ integer text
unfolding integer
nothing_signed [] e = refl
nothing_signed (c ∷ cs) e = absurd (omega arith)

pub nothing_read : (bound : ℕ) (text : List ℕ) → length text ≡ 0 → None ≡ number bound text
unfolding number
nothing_read bound [] e = refl
nothing_read bound (c ∷ cs) e = absurd (omega arith)

pub number_reads : (bound : ℕ) (text : List ℕ) (r : Option ℕ) → bound ≤ 2 ^ 64 → r ≡ number bound text → ReadsNumber bound text r
number_reads bound text (Some n) low e = (number_spelled bound text n low (sym e)).0
number_reads bound text None low e =
    λ n h written. let again : number bound text ≡ Some n = rw written (number_again bound n low h) in cc

-- what a number is where it is cast to fewer bits
pub number_narrowed : {E : Type 0} (small bound : ℕ) (text : List ℕ) (n : ℕ) (r : Result ℕ E) → Some n ≡ number bound text → OkIff r (n < small) n → result_ok r ≡ number small text
unfolding number
number_narrowed small bound text n r e h =
    let v : ℕ = digits_value 10 text in
    let found : (is_number text && ltb v bound ≡ true) × (v ≡ n) = cond_some _ v n (sym e) in
    let test : is_number text ≡ true = (and_parts _ _ found.0).0 in
    let same : number small text ≡ cond (ltb n small) (Some n) None = rw (test, found.1) refl in
    ok_by_test r (ltb n small) (n < small) n h (λ t. ltb-true n small t) (λ w. lt-ltb n small w) ∙ sym same

past : (v small : ℕ) → (v < small → ⊥) → ltb v small ≡ false
past v small h = grind (arith, nat_tests)

none_below : (b : Bool) (v small bound : ℕ) → small ≤ bound → None ≡ cond (b && ltb v bound) (Some v) None → cond (b && ltb v small) (Some v) None ≡ None
none_below false v small bound low e = refl
none_below true v small bound low e =
    ap (λ (t : Bool). cond t (Some v) None) (past v small (λ h. let yes : ltb v bound ≡ true = lt-ltb v bound (omega arith) in let bad = rw yes at e in cc))

-- and where there is none below the greater bound there is none
pub number_none : (small bound : ℕ) (text : List ℕ) → small ≤ bound → None ≡ number bound text → number small text ≡ None
unfolding number
number_none small bound text low e = none_below (is_number text) (digits_value 10 text) small bound low e

map_cond : {A B : Type 0} (f : A → B) (b : Bool) (x : A) → option_map f (cond b (Some x) None) ≡ cond b (Some (f x)) None
map_cond f true x = refl
map_cond f false x = refl

positive_fits : (n : ℕ) → FitsSigned w64 (pos n) → n < 2 ^ 63
positive_fits n h = omega (arith, ints)

negative_fits : (m : ℕ) → FitsSigned w64 (negsuc m) → suc m ≤ 2 ^ 63
negative_fits m h = omega (arith, ints)

-- a number that has a sign
pub positive_read : {E : Type 0} (text : List ℕ) (n : ℕ) (r : Result ℤ E) → Some n ≡ number (2 ^ 64) text → OkIff r (FitsSigned w64 (pos n)) (pos n) →
    result_ok r ≡ option_map pos (number (2 ^ 63) text)
unfolding number
positive_read text n r e h =
    let v : ℕ = digits_value 10 text in
    let found : (is_number text && ltb v (2 ^ 64) ≡ true) × (v ≡ n) = cond_some _ v n (sym e) in
    let test : is_number text ≡ true = (and_parts _ _ found.0).0 in
    let same : number (2 ^ 63) text ≡ cond (ltb n (2 ^ 63)) (Some n) None = rw (test, found.1) refl in
    ok_by_test r (ltb n (2 ^ 63)) (FitsSigned w64 (pos n)) (pos n) h (λ t. let below : n < 2 ^ 63 = ltb-true n (2 ^ 63) t in omega (arith, ints)) (λ w. lt-ltb n (2 ^ 63) (positive_fits n w))
    ∙ sym (map_cond pos (ltb n (2 ^ 63)) n)
    ∙ ap (option_map pos) (sym same)

pub no_positive : (text : List ℕ) → None ≡ number (2 ^ 64) text → None ≡ option_map pos (number (2 ^ 63) text)
no_positive text e = sym (ap (option_map pos) (number_none (2 ^ 63) (2 ^ 64) text (omega arith) e))

-- a text that is not behind a minus sign
pub integer_positive : (text : List ℕ) → ((rest : List ℕ) → text ≢ 45 ∷ rest) → integer text ≡ option_map pos (number (2 ^ 63) text)
unfolding integer number
integer_positive [] h = refl
integer_positive (c ∷ cs) h =
    elim (eqb_tells c 45) [
      | inl w ↦ absurd (h cs (rw w.1 refl))
      | inr w ↦ rw w.0 refl
    ]

-- a text that is
some_by_test : {T : Type 0} (r : Option T) (b : Bool) (P : Type 0) (v : T) → SomeIff r P v → (b ≡ true → P) → (P → b ≡ true) → r ≡ cond b (Some v) None
some_by_test (Some x) true P v h to from = ap Some h.1
some_by_test (Some x) false P v h to from = let bad : false ≡ true = from h.0 in cc
some_by_test None true P v h to from = absurd (h (to refl))
some_by_test None false P v h to from = refl

cond_same : {A : Type 0} (b : Bool) (x : A) → cond b x x ≡ x
cond_same true x = refl
cond_same false x = refl

pub no_negative : (digits : List ℕ) → None ≡ number (2 ^ 64) digits → None ≡ integer (45 ∷ digits)
unfolding integer
no_negative digits e =
    let none : option_map (λ n. neg_ℤ (pos n)) (number (2 ^ 63 + 1) digits) ≡ None =
    ap (option_map (λ n. neg_ℤ (pos n))) (number_none (2 ^ 63 + 1) (2 ^ 64) digits (omega arith) e) in
    sym (ap (λ o. cond (bytes_eq digits (codes "0")) None o) none ∙ cond_same (bytes_eq digits (codes "0")) None)

-- there is no -0
pub minus_zero : (digits : List ℕ) (n : ℕ) → Some n ≡ number (2 ^ 64) digits → n ≡ 0 → None ≡ integer (45 ∷ digits)
unfolding integer
minus_zero digits n e nought =
    let spelled : digits ≡ decimal n = (number_spelled (2 ^ 64) digits n (omega arith) (sym e)).0 in
    let same : digits ≡ codes "0" = spelled ∙ ap decimal nought ∙ decimal_digit 0 (omega arith) in
    rw ((bytes_eq-Decides digits (codes "0")).1 same) refl

negated : (n : ℕ) → pos 0 -ℤ pos n ≡ neg_ℤ (pos n)
negated n = omega (arith, ints)

pub negative_read : (digits : List ℕ) (n : ℕ) (r : Option ℤ) → Some n ≡ number (2 ^ 64) digits → n ≢ 0 → SomeIff r (FitsSigned w64 (pos 0 -ℤ pos n)) (pos 0 -ℤ pos n) → r ≡ integer (45 ∷ digits)
unfolding integer number
negative_read digits n r e other h =
    let v : ℕ = digits_value 10 digits in
    let found : (is_number digits && ltb v (2 ^ 64) ≡ true) × (v ≡ n) = cond_some _ v n (sym e) in
    let test : is_number digits ≡ true = (and_parts _ _ found.0).0 in
    let spelled : digits ≡ decimal n = (number_spelled (2 ^ 64) digits n (omega arith) (sym e)).0 in
    let same : number (2 ^ 63 + 1) digits ≡ cond (ltb n (2 ^ 63 + 1)) (Some n) None = rw (test, found.1) refl in
    let zero : bytes_eq digits (codes "0") ≡ false =
    false_from_ne_true (bytes_eq digits (codes "0")) (λ yes.
    let is : digits ≡ codes "0" = (bytes_eq-Decides digits (codes "0")).0 yes in
    let none : Some 0 ≡ Some n = ap (number (2 ^ 64)) (sym is) ∙ sym e in
    other (sym (cc))) in
    some_by_test r (ltb n (2 ^ 63 + 1)) (FitsSigned w64 (pos 0 -ℤ pos n)) (pos 0 -ℤ pos n) h (λ t. let below : n < 2 ^ 63 + 1 = ltb-true n (2 ^ 63 + 1) t in omega (arith, ints))
    (λ w. lt-ltb n (2 ^ 63 + 1) (omega (arith, ints, w)))
    ∙ ap (λ z. cond (ltb n (2 ^ 63 + 1)) (Some z) None) (negated n)
    ∙ sym (map_cond (λ n. neg_ℤ (pos n)) (ltb n (2 ^ 63 + 1)) n)
    ∙ ap (option_map (λ n. neg_ℤ (pos n))) (sym same)
    ∙ ap (λ b. cond b None (option_map (λ n. neg_ℤ (pos n)) (number (2 ^ 63 + 1) digits))) (sym zero)

not_refused : {A : Type 0} (b : Bool) (o : Option A) (z : A) → cond b None o ≡ Some z → (b ≡ false) × (o ≡ Some z)
not_refused true o z e = cc
not_refused false o z e = (refl, e)

-- the digits behind a minus sign
negative_spelled : (digits : List ℕ) (n : ℕ) → digits ≡ decimal n → bytes_eq digits (codes "0") ≡ false → 45 ∷ digits ≡ signed_decimal (neg_ℤ (pos n))
negative_spelled digits zero e z =
    let same : digits ≡ codes "0" = e ∙ decimal_digit 0 (omega arith) in
    let yes : bytes_eq digits (codes "0") ≡ true = (bytes_eq-Decides digits (codes "0")).1 same in
    cc
negative_spelled digits (suc m) e z = ap (λ (l : List ℕ). 45 ∷ l) e

integer_spelled : (text : List ℕ) (z : ℤ) → integer text ≡ Some z → text ≡ signed_decimal z
unfolding integer
integer_spelled [] z e = cc
integer_spelled (c ∷ cs) z e =
    elim (eqb_tells c 45) [
      | inl w ↦
          let refused : cond (bytes_eq cs (codes "0")) None (option_map (λ n. neg_ℤ (pos n)) (number (2 ^ 63 + 1) cs)) ≡ Some z = rw w.0 at e in
          let kept = not_refused (bytes_eq cs (codes "0")) (option_map (λ n. neg_ℤ (pos n)) (number (2 ^ 63 + 1) cs)) z refused in
          let found = made_of (λ n. neg_ℤ (pos n)) (number (2 ^ 63 + 1) cs) z kept.1 in
          ap (λ (d : ℕ). d ∷ cs) w.1 ∙ negative_spelled cs found.0 (number_spelled (2 ^ 63 + 1) cs found.0 (omega arith) found.1).0 kept.0 ∙ ap signed_decimal found.2
      | inr w ↦
          let here : option_map pos (number (2 ^ 63) (c ∷ cs)) ≡ Some z = rw w.0 at e in
          let found = made_of pos (number (2 ^ 63) (c ∷ cs)) z here in
          (number_spelled (2 ^ 63) (c ∷ cs) found.0 (omega arith) found.1).0 ∙ ap signed_decimal found.2
    ]

-- no number begins with a minus sign
unsigned : (n : ℕ) (rest : List ℕ) → n < 2 ^ 64 → decimal n ≢ 45 ∷ rest
unsigned n rest h e =
    let digits : list_all is_ascii_digit (45 ∷ rest) ≡ true = sym (ap (list_all is_ascii_digit) e) ∙ digits_decimal own n h in
    cc

not_zero : (m : ℕ) → suc m < 2 ^ 64 → bytes_eq (decimal (suc m)) (codes "0") ≡ false
not_zero m h =
    false_from_ne_true (bytes_eq (decimal (suc m)) (codes "0")) (λ yes.
    let same : decimal (suc m) ≡ codes "0" = (bytes_eq-Decides (decimal (suc m)) (codes "0")).0 yes in
    let first : get_or (decimal (suc m)) 0 0 ≡ 48 = ap (λ (l : List ℕ). get_or l 0 0) same in
    let more : 48 < get_or (decimal (suc m)) 0 0 = first_decimal (suc m) (omega arith) h in
    absurd (omega arith))

pub integer_again : (z : ℤ) → FitsSigned w64 z → integer (signed_decimal z) ≡ Some z
unfolding integer
integer_again (pos n) h =
    let fits : n < 2 ^ 63 = positive_fits n h in
    integer_positive (decimal n) (λ rest. unsigned n rest (omega arith)) ∙ ap (option_map pos) (number_again (2 ^ 63) n (omega arith) fits)
integer_again (negsuc m) h =
    let fits : suc m ≤ 2 ^ 63 = negative_fits m h in
    let again : option_map (λ n. neg_ℤ (pos n)) (number (2 ^ 63 + 1) (decimal (suc m))) ≡ Some (negsuc m) =
    ap (option_map (λ n. neg_ℤ (pos n))) (number_again (2 ^ 63 + 1) (suc m) (omega arith) (omega arith)) in
    ap (λ b. cond b None (option_map (λ n. neg_ℤ (pos n)) (number (2 ^ 63 + 1) (decimal (suc m))))) (not_zero m (omega arith)) ∙ again

pub integer_reads : (text : List ℕ) (r : Option ℤ) → r ≡ integer text → ReadsInteger text r
integer_reads text (Some z) e = integer_spelled text z (sym e)
integer_reads text None e = λ z h written. let again : integer text ≡ Some z = rw written (integer_again z h) in cc
