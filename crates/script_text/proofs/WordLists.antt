-- Words taken off the front of a text.
use Rattle.std.proofs.Common.{◌≡◌, ◌∙◌, sym, ap, refl, ℕ, ◌+◌, ◌<◌, Bool, true, false, eqb, List, [], ◌∷◌, length, Option, Some, None, is_some, not, ℤ, ◌++◌, take, append_assoc, append-nil}
use Rattle.std.proofs.Common.{length-append, cond, leb, ◌&&◌, add-one, arith}
use Rattle.std.specs.Borrow.{Bor}
use Rattle.std.specs.List.{slice_split}
use Rattle.std.proofs.lemmas.List.Splits.{length-slice_split}
use Rattle.std.proofs.lemmas.Bool.Decides.{nat_tests}
use Rattle.std.specs.Option.{option_map, option_map_or}
use Rattle.std.proofs.Math.Seq.{take-suc-set}
use Rattle.std.proofs.Math.ListN.{set}
use Rattle.script_text.proofs.Splits.{is_byte}
use Rattle.script_text.specs.Number.{integer}
use Rattle.script_text.specs.Words.{Word, words_left, first_word, alone, all_in, row_in, sides_of, ◌>>=◌}

pub not_nothing : (n k : ℕ) → n ≡ k + 1 → eqb n 0 ≡ false
not_nothing n k e = grind (arith, nat_tests)

pub none_left : (rest : Option (Bor (List ℕ))) (r : Bool) → is_some rest ≡ not r → r ≡ eqb (length (words_left rest)) 0
none_left None true e = refl
none_left None false e = cc
none_left (Some text) true e = cc
none_left (Some text) false e = sym (not_nothing _ _ (length-slice_split (is_byte 32) text.now))

-- the words after the first, from what taking it off gave
pub words_are : (words rest : List Word) (word : Word) → first_word words ≡ Some (word, rest) → words ≡ word ∷ rest
words_are [] rest word e = cc
words_are (w ∷ ws) rest word e = ap (λ (o : Option (Word × List Word)). option_map_or (λ p. p.0 ∷ p.1) o []) e

pub none_are : (words : List Word) → first_word words ≡ None → words ≡ []
none_are [] e = refl
none_are (w ∷ ws) e = cc

grown : {A : Type 0} (front : List A) (x : A) (o : Option (List A)) → option_map (λ r. (front ++ x ∷ []) ++ r) o ≡ option_map (λ r. front ++ r) (o >>= λ xs. Some (x ∷ xs))
grown front x None = refl
grown front x (Some r) = ap Some (append_assoc front (x ∷ []) r)

-- the items so far, and then those of the words that are left
abbrev pub then_rest : {A : Type 0} → (Word → Option A) → List A → List Word → Option (List A)
then_rest {A} read front words = option_map (λ (r : List A). front ++ r) (all_in read words)

-- the same once the first of these was taken off
pub then_first : {A : Type 0} (read : Word → Option A) (front : List A) (words rest : List Word) (word : Word) → first_word words ≡ Some (word, rest) →
    then_rest read front (word ∷ rest) ≡ then_rest read front words
then_first read front words rest word first = ap (λ (ws : List Word). then_rest read front ws) (sym (words_are words rest word first))

-- one item more in front
pub front_more : {A : Type 0} (read : Word → Option A) (front : List A) (words rest : List Word) (word : Word) (x : A) → first_word words ≡ Some (word, rest) → read word ≡ Some x →
    then_rest read (front ++ x ∷ []) rest ≡ then_rest read front words
unfolding all_in
front_more {A} read front words rest word x first e =
    grown front x (all_in read rest)
    ∙ ap (λ o. option_map (λ (r : List A). front ++ r) (o >>= λ x'. all_in read rest >>= λ xs. Some (x' ∷ xs))) (sym e)
    ∙ then_first read front words rest word first

-- one item more
pub item_more : {A : Type 0} (read : Word → Option A) (items : List A) (count : ℕ) (words rest : List Word) (word : Word) (x written : A) → count < length items → written ≡ x →
    first_word words ≡ Some (word, rest) → read word ≡ Some x → then_rest read (take (count + 1) (set items count written)) rest ≡ then_rest read (take count items) words
item_more {A} read items count words rest word x written below same first e =
    let front : take (count + 1) (set items count written) ≡ take count items ++ x ∷ [] = rw (same, add-one, take-suc-set items count x below) refl in
    ap (λ f. then_rest read f rest) front ∙ front_more read (take count items) words rest word x first e

-- a word that is no item
pub no_item : {A : Type 0} (read : Word → Option A) (front : List A) (initial words rest : List Word) (word : Word) → read word ≡ None → first_word words ≡ Some (word, rest) →
    then_rest read front words ≡ all_in read initial → all_in read initial ≡ None
unfolding all_in
no_item {A} read front initial words rest word none first e =
    let refused : all_in read (word ∷ rest) ≡ None = rw none refl in
    sym e ∙ sym (then_first read front words rest word first) ∙ ap (option_map (λ (r : List A). front ++ r)) refused

past : {A : Type 0} (front : List A) (first : Option A) (o : Option (List A)) (all : List A) → option_map (λ r. front ++ r) (first >>= λ x. o >>= λ xs. Some (x ∷ xs)) ≡ Some all →
    length front < length all
past front None o all e = cc
past front (Some x) None all e = cc
past {A} front (Some x) (Some r) all e =
    let same : front ++ x ∷ r ≡ all = ap (λ (o : Option (List A)). option_map_or (λ p. p) o all) e in
    let wide : length (front ++ x ∷ r) ≡ length all = ap length same in
    omega (arith, length-append front (x ∷ r), wide)

-- an item behind these
pub item_past : {A : Type 0} (read : Word → Option A) (front : List A) (initial words rest : List Word) (word : Word) (all : List A) → first_word words ≡ Some (word, rest) →
    then_rest read front words ≡ all_in read initial → all_in read initial ≡ Some all → length front < length all
unfolding all_in
item_past read front initial words rest word all first e is =
    past front (read word) (all_in read rest) all (then_first read front words rest word first ∙ e ∙ is)

-- no word is left
pub all_read : {A : Type 0} (read : Word → Option A) (front : List A) (words initial : List Word) → words ≡ [] → then_rest read front words ≡ all_in read initial → all_in read initial ≡ Some front
unfolding all_in
all_read {A} read front words initial none e = sym e ∙ ap (λ ws. then_rest read front ws) none ∙ ap Some (append-nil front)

above_sixteen : (n : ℕ) → 16 < n → (leb 1 n && leb n 16) ≡ false
above_sixteen n e = grind (arith, nat_tests)

wide_row : (o : Option (List ℤ)) → ((all : List ℤ) → o ≡ Some all → 16 < length all) → (o >>= λ columns. cond (leb 1 (length columns) && leb (length columns) 16) (Some columns) None) ≡ None
wide_row None wide = refl
wide_row (Some all) wide = ap (λ b. cond b (Some all) None) (above_sixteen (length all) (wide all refl))

-- more than sixteen columns
pub no_row : (words : List Word) (n : ℕ) → n ≡ 16 → ((all : List ℤ) → all_in integer words ≡ Some all → n < length all) → None ≡ row_in words
unfolding row_in
no_row words n e wide = sym (wide_row (all_in integer words) (λ all is. omega (arith, e, wide all is)))

pair_of_sides : List Word → Option (Word × Word)
pair_of_sides parts = first_word parts >>= λ left. alone (first_word left.1) >>= λ right. Some (left.0, right)

-- no `=`
pub no_sides : (word : Word) → slice_split (is_byte 61) word ≡ word ∷ [] → None ≡ sides_of word
unfolding sides_of pair_of_sides
no_sides word h = sym (ap pair_of_sides h)

-- one `=`
pub two_sides : (word left right : Word) → slice_split (is_byte 61) word ≡ left ∷ slice_split (is_byte 61) right → slice_split (is_byte 61) right ≡ right ∷ [] → Some (left, right) ≡ sides_of word
unfolding sides_of pair_of_sides
two_sides word left right h none = sym (ap pair_of_sides (h ∙ ap (λ (parts : List Word). left ∷ parts) none))

third_side : (left middle : Word) (rest : List Word) (k : ℕ) → length rest ≡ k + 1 → pair_of_sides (left ∷ middle ∷ rest) ≡ None
unfolding pair_of_sides
third_side left middle rest k e = rw (not_nothing (length rest) k e) refl

-- two `=`
pub many_sides : (word left right middle rest : Word) → slice_split (is_byte 61) word ≡ left ∷ slice_split (is_byte 61) right →
    slice_split (is_byte 61) right ≡ middle ∷ slice_split (is_byte 61) rest → None ≡ sides_of word
unfolding sides_of pair_of_sides
many_sides word left right middle rest h more =
    sym (ap pair_of_sides (h ∙ ap (λ (parts : List Word). left ∷ parts) more)
    ∙ third_side left middle _ _ (length-slice_split (is_byte 61) rest))
