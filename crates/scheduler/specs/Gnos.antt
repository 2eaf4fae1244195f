-- Sets of transaction numbers, as lists.
use Rattle.std.specs.Prelude.{◌≡◌, ℕ, zero, suc, ◌+◌, ◌≤◌, Bool, true, false, ◌==◌, ◌&&◌, nat_le, if◌then◌else◌, List, [], ◌∷◌, ◌++◌, length}
use Rattle.std.specs.List.{AllByRecursion, list_any, position_or_len, remove}

-- whether the number is among these
abbrev pub has_gno : List ℕ → ℕ → Bool
has_gno gnos gno = list_any (λ (n : ℕ). n == gno) gnos

-- these numbers without the first that is this one
abbrev pub without : ℕ → List ℕ → List ℕ
without gno gnos = remove gnos (position_or_len (λ (n : ℕ). n == gno) gnos)

-- none of the numbers comes twice
abbrev pub AreDistinct : List ℕ → Type 0
AreDistinct [] = Unit {0}
AreDistinct (gno ∷ gnos) = (has_gno gnos gno ≡ false) × AreDistinct gnos

-- a number that none of these is above
abbrev pub bound_of : List ℕ → ℕ
bound_of [] = 0
bound_of (gno ∷ gnos) = gno + bound_of gnos

-- from a number on, as far as the next is among these, so many steps at most
abbrev pub low_from : List ℕ → ℕ → ℕ → ℕ
low_from gnos zero from = from
low_from gnos (suc steps) from = if has_gno gnos (from + 1) then low_from gnos steps (from + 1) else from

-- the low-water mark: the greatest number such that all from 1 up to it are among these
abbrev pub low_of : List ℕ → ℕ
low_of gnos = low_from gnos (bound_of gnos) 0

-- the numbers from 1 to this one
abbrev pub first_gnos : ℕ → List ℕ
first_gnos zero = []
first_gnos (suc n) = first_gnos n ++ (suc n) ∷ []

-- ---- what is true of them

-- all from 1 up to this number are among them, and the next is not
pub record IsLow (gnos : List ℕ) (low : ℕ) : Type 0 where
  pub all : (gno : ℕ) → 1 ≤ gno → gno ≤ low → has_gno gnos gno ≡ true
  pub next : has_gno gnos (low + 1) ≡ false

abbrev pub LowIsLow : Type 0
LowIsLow = (gnos : List ℕ) → IsLow gnos (low_of gnos)

-- there is one such number, and sets of the same numbers have the same
abbrev pub OneLow : Type 0
OneLow = (gnos others : List ℕ) (m n : ℕ) → ((gno : ℕ) → 1 ≤ gno → has_gno gnos gno ≡ has_gno others gno) → IsLow gnos m → IsLow others n → m ≡ n

-- the numbers from 1 to n are just these, and n is their mark
abbrev pub HasFirst : Type 0
HasFirst = (n gno : ℕ) → has_gno (first_gnos n) gno ≡ (nat_le 1 gno && nat_le gno n)

abbrev pub LowOfFirst : Type 0
LowOfFirst = (n : ℕ) → low_of (first_gnos n) ≡ n

-- more numbers have no lower mark
abbrev pub LowRises : Type 0
LowRises = (gnos more : List ℕ) → low_of gnos ≤ low_of (gnos ++ more)

-- distinct numbers that are all among others are no more than these
abbrev pub AreFewer : Type 0
AreFewer = (xs ys : List ℕ) → AreDistinct xs → AllByRecursion (λ (gno : ℕ). has_gno ys gno ≡ true) xs → length xs ≤ length ys

-- the mark is at most their number, where they are distinct and none is 0
abbrev pub LowIsFew : Type 0
LowIsFew = (gnos : List ℕ) → AreDistinct gnos → low_of gnos ≤ length gnos
