-- The array of a row that is made of a list of columns.
use Rattle.std.proofs.Common.{◌≡◌, ◌-◌, ◌≤◌, List, ◌++◌, length, take, drop, ℤ, pos, sym, ap, subst, ◌∙◌, arith, length-append}
use Rattle.std.specs.Prelude.{replicate}
use Rattle.std.proofs.lemmas.List.{drop-replicate, length-replicate, take_at}
use Rattle.rows.specs.Row.{IsRow}

-- sixteen zeros, with the columns written over the first of them
pub is_row : (columns zeros written : List ℤ) → zeros ≡ replicate 16 (pos 0) → written ≡ columns → 1 ≤ length columns → length columns ≤ 16 →
    IsRow (record { len = length columns; values = written ++ drop (length columns) zeros })
is_row columns zeros written z w some few =
    let n = length columns in
    let here : length written ≡ n = ap length w in
    let front : take n (written ++ drop n zeros) ≡ written = take_at written (drop n zeros) n here in
    let back : drop n zeros ≡ replicate (16 - n) (pos 0) = ap (drop n) z ∙ drop-replicate n 16 (pos 0) in
    let filled : written ++ drop n zeros ≡ written ++ replicate (16 - length written) (pos 0) = ap (λ l. written ++ l) back ∙ ap (λ k. written ++ replicate (16 - k) (pos 0)) (sym here) in
    record {
      some = some;
      few = few;
      wide = omega (arith, length-append written (drop n zeros), ap length back, length-replicate (16 - n) (pos 0));
      zeros = subst (λ (l : List ℤ). written ++ drop n zeros ≡ l ++ replicate (16 - length l) (pos 0)) (sym front) filled;
    }
