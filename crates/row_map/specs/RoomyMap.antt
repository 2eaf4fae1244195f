-- What is kept of rows, or of marks, which are written as row ids.
use Rattle.std.specs.Prelude.{ℕ, refl}
use Rattle.std.specs.Coded.{Coded, code_by, coded×, coded_ℕ}
use Rattle.std.specs.FinMap.{FinMap, code}
use Rattle.schema.specs.RowId.{row_cmp, coded_row_id}

-- what stands at each row, and how many more rows surely take no memory
pub record RoomyMap (V : Type 0) : Type 0 where
  pub map : FinMap row_cmp V
  pub room : ℕ

abbrev pub roomy_map_code : {V : Type 0} → Coded V → Coded (RoomyMap V)
roomy_map_code {V} v =
    code_by (FinMap row_cmp V × ℕ) (coded× (code coded_row_id v) coded_ℕ) (λ k. (k.map, k.room)) (λ p. record { map = p.0; room = p.1 }) (λ _. refl)
