-- Texts that are cut at a byte.
use Rattle.std.proofs.Common.{◌≡◌, ◌∙◌, sym, ap, refl, ℕ, ◌+◌, ◌-◌, ◌<◌, Bool, true, false, eqb, List, [], ◌∷◌, length, Some, None, cond, arith, ltb, take, drop, ◌≤◌}
use Rattle.std.specs.List.{slice_split, slice_range, position, position_or_len}
use Rattle.std.proofs.lemmas.List.Splits.{slice_split_none, slice_split_first}
use Rattle.std.proofs.lemmas.Option.{cond_some}
use Rattle.std.proofs.lemmas.List.Sums.{fails_before_first}
use Rattle.std.proofs.lemmas.Bool.{ltb-true}
use Rattle.std.proofs.lemmas.List.Elements.{All-from_get_or}
use Rattle.std.proofs.lemmas.Bool.Decides.{nat_tests}

abbrev pub is_byte : ℕ → ℕ → Bool
is_byte c b = eqb b c

-- where a test first passes
pub first_place : {X : Type 0} (p : X → Bool) (xs : List X) (at : ℕ) → position p xs ≡ Some at → (position_or_len p xs ≡ at) × (at < length xs)
first_place p xs at e = let found = cond_some (ltb (position_or_len p xs) (length xs)) (position_or_len p xs) at e in (found.1, omega (arith, found.1, ltb-true _ _ found.0))

-- at the first such byte
pub cut_there : (c : ℕ) (text front behind : List ℕ) (at : ℕ) → position (is_byte c) text ≡ Some at → front ≡ slice_range text 0 at → behind ≡ drop (at + 1) text →
    slice_split (is_byte c) text ≡ front ∷ slice_split (is_byte c) behind
cut_there c text front behind at e f b =
    let here = first_place (is_byte c) text at e in
    let whole : at - 0 ≡ at = omega arith in
    slice_split_first (is_byte c) text 0 (omega (arith, here.0, here.1))
    ∙ ap (λ i. take i text ∷ slice_split (is_byte c) (drop (i + 1) text)) here.0
    ∙ (λ i. sym (f ∙ ap (λ n. take n text) whole) i ∷ slice_split (is_byte c) (sym b i))

refused : {X : Type 0} (b : Bool) (x : X) → cond b (Some x) None ≡ None → b ≡ false
refused true x e = cc
refused false x e = refl

no_place : {X : Type 0} (n k : ℕ) (x : X) → cond (ltb n k) (Some x) None ≡ None → k ≤ n
no_place n k x e = let past : ltb n k ≡ false = refused (ltb n k) x e in grind (arith, nat_tests)

-- where there is none
pub cut_nowhere : (c : ℕ) (text : List ℕ) → position (is_byte c) text ≡ None → slice_split (is_byte c) text ≡ text ∷ []
cut_nowhere c text e =
    let end : length text ≤ position_or_len (is_byte c) text = no_place _ _ _ e in
    slice_split_none (is_byte c) text
    (All-from_get_or (λ b. is_byte c b ≡ false) text 0 (λ i l. fails_before_first (is_byte c) text i 0 (omega (arith, end, l))))
