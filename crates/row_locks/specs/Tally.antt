-- How many sessions hold each row.
use Rattle.std.specs.Prelude.{◌≡◌, ℕ, Some, refl}
use Rattle.std.specs.Option.{option_map_or}
use Rattle.std.specs.Coded.{Coded, code_by, coded×, coded_ℕ}
use Rattle.std.specs.FinMap.{FinMap, get}
use Rattle.schema.specs.declared.RowId.{RowId}
use Rattle.schema.specs.RowId.{row_cmp}
use Rattle.row_locks.specs.declared.Mode.{Mode}
use Rattle.row_locks.specs.declared.Mode.TheVariants.{Share, Exclusive}
use Rattle.row_locks.specs.declared.tally.Count.{Count}

abbrev pub Counts : Type 0
Counts = FinMap row_cmp Count

abbrev pub count_code : Coded Count
count_code = code_by (ℕ × ℕ) (coded× coded_ℕ coded_ℕ) (λ c. (c.holders, c.exclusive)) (λ p. record { holders = p.0; exclusive = p.1 }) (λ _. refl)

-- of the sessions that are counted, how many clash with a lock of this mode
abbrev pub opposing : Count → Mode → ℕ
opposing count Share = count.exclusive
opposing count Exclusive = count.holders

-- how many sessions hold the row in a way that clashes with another session's lock of this mode
abbrev pub count_at : Counts → RowId → Mode → ℕ
count_at counts row mode = option_map_or (λ count. opposing count mode) (get counts row) 0

abbrev pub nobody : Count
nobody = record { holders = 0; exclusive = 0 }

-- no row is kept that no session holds
abbrev pub AllAreHeld : Counts → Type 0
AllAreHeld counts = (row : RowId) (count : Count) → get counts row ≡ Some count → ¬ (count ≡ nobody)
