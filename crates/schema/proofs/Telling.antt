-- What a test tells.
use Rattle.std.proofs.Common.{◌≡◌, sym, refl, Bool, true, false, true≢false, T, Ordering, Less, Equal, Greater, is_eq, is_lt, Option, Some, None, is_some}

-- tests that are passed together are equal
pub both_or_none : (a b : Bool) → (a ≡ true → b ≡ true) → (b ≡ true → a ≡ true) → a ≡ b
both_or_none true b h g = sym (h refl)
both_or_none false true h g = g refl
both_or_none false false h g = refl

pub true_from_T : (b : Bool) → T b → b ≡ true
true_from_T true h = refl
true_from_T false h = absurd h

pub is_equal : (o : Ordering) → is_eq o ≡ true → o ≡ Equal
is_equal Less h = cc
is_equal Equal h = refl
is_equal Greater h = cc

pub is_less : (o : Ordering) → is_lt o ≡ true → o ≡ Less
is_less Less h = refl
is_less Equal h = cc
is_less Greater h = cc

pub less_apart : (o : Ordering) → is_lt o ≡ true → is_eq o ≡ false
less_apart Less h = refl
less_apart Equal h = absurd (true≢false (sym h))
less_apart Greater h = refl

pub not_some : {A : Type 0} (o : Option A) → is_some o ≡ false → o ≡ None
not_some None h = refl
not_some (Some x) h = cc
