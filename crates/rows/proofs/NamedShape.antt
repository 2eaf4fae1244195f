-- The array of named columns that is made of a list of values.
use Rattle.std.proofs.Common.{◌≡◌, ◌≤◌, ◌<◌, ◌^◌, ℕ, List, ◌++◌, length, take, drop, ℤ, pos, subst, arith, count_ones, refl, zero, suc}
use Rattle.std.specs.Prelude.{replicate}
use Rattle.std.proofs.lemmas.Nat.{ones-le, zero_from_ones}
use Rattle.rows.specs.Row.{padded}
use Rattle.rows.specs.Named.{IsNamed}
use Rattle.rows.proofs.RowShape.{is_row}

-- a mask of one bit at least
some_bit : (mask : ℕ) → 1 ≤ mask → 1 ≤ count_ones mask
some_bit mask some = by (count_ones mask) refl
  where
    by : (n : ℕ) → count_ones mask ≡ n → 1 ≤ n
    by zero none = let e = zero_from_ones mask none in absurd (omega arith)
    by (suc n) _ = omega arith

-- sixteen zeros, with a value for each bit of the mask written over the first of them
pub is_named : (mask : ℕ) (values zeros written : List ℤ) → zeros ≡ replicate 16 (pos 0) → written ≡ values → 1 ≤ mask → mask < 2 ^ 16 → length values ≡ count_ones mask →
    IsNamed (record { mask = mask; values = written ++ drop (length values) zeros })
is_named mask values zeros written z w some low each =
    let few : count_ones mask ≤ 16 = ones-le 16 mask low in
    let one = some_bit mask some in
    let row = is_row values zeros written z w (omega arith) (omega arith) in
    record {
      some = some;
      low = low;
      few = few;
      wide = row.wide;
      zeros = subst (λ n. written ++ drop (length values) zeros ≡ padded (take n (written ++ drop (length values) zeros))) each row.zeros;
    }
