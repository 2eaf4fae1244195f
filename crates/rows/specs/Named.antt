-- Named columns with their values, kept in a fixed array.
use Rattle.std.specs.Prelude.{◌≡◌, ◌^◌, ◌<◌, ◌≤◌, count_ones, length, take}
use Rattle.std.proofs.Common.{sym}
use Rattle.rows.specs.Row.{padded}
use Rattle.rows.specs.Naming.{NamedColumns}
use Rattle.rows.specs.declared.naming.Named.TheInside.{Inside}

abbrev pub naming_of : Inside → NamedColumns
naming_of named = record { mask = named.mask; values = take (count_ones named.mask) named.values }

-- some column is named, one value for each, and zeros behind them
pub record IsNamed (named : Inside) : Type 0 where
  pub some : 1 ≤ named.mask
  pub low : named.mask < 2 ^ 16
  pub few : count_ones named.mask ≤ 16
  pub wide : length named.values ≡ 16
  pub zeros : named.values ≡ padded (take (count_ones named.mask) named.values)

-- mask and values give the array back
pub named_again : (named : Inside) → IsNamed named → ◌≡◌ {A = Inside} (record { mask = named.mask; values = padded (take (count_ones named.mask) named.values) }) named
named_again named h = λ i. record { mask = named.mask; values = sym h.zeros i }
