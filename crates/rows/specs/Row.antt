-- A row as the list of its columns, kept in a fixed array.
use Rattle.std.specs.Prelude.{◌≡◌, ℤ, pos, ◌-◌, ◌≤◌, List, ◌++◌, length, take, replicate}
use Rattle.std.proofs.Common.{sym, subst}
use Rattle.std.proofs.lemmas.List.{length-take-le}
use Rattle.rows.specs.declared.Row.TheInside.{Inside}

-- the columns, and then zeros up to sixteen
abbrev pub padded : List ℤ → List ℤ
padded columns = columns ++ replicate (16 - length columns) (pos 0)

abbrev pub columns_of : Inside → List ℤ
columns_of row = take row.len row.values

-- one to sixteen columns, and zeros behind them
pub record IsRow (row : Inside) : Type 0 where
  pub some : 1 ≤ row.len
  pub few : row.len ≤ 16
  pub wide : length row.values ≡ 16
  pub zeros : row.values ≡ padded (columns_of row)

-- the columns give the array back
pub padded_again : (row : Inside) → IsRow row → ◌≡◌ {A = Inside} (record { len = length (columns_of row); values = padded (columns_of row) }) row
padded_again row h =
    let all : length (columns_of row) ≡ row.len = length-take-le row.len row.values (subst (λ n. row.len ≤ n) (sym h.wide) h.few) in
    λ i. record { len = all i; values = sym h.zeros i }
