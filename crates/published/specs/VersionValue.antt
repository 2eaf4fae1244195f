-- What a copy has, as plain data.
use Rattle.std.specs.Prelude.{List, [], refl}
use Rattle.std.specs.FinMap.{empty, code as map_code}
use Rattle.std.specs.Coded.{Coded, code_by, coded×, coded_ℤ, coded_list}
use Rattle.schema.specs.RowId.{coded_row_id}
use Rattle.rows.specs.Database.{Database}
use Rattle.store_trait.specs.declared.Op.{Op}

-- the rows, and the operations that left them
pub record VersionValue : Type 0 where
  pub rows : Database
  pub by : List Op

abbrev pub nothing : VersionValue
nothing = record { rows = empty; by = [] }

-- as a pair, by a code of operations
abbrev pub held_code : Coded Op → Coded VersionValue
held_code op = code_by (Database × List Op) (coded× (map_code coded_row_id (coded_list coded_ℤ)) (coded_list op)) (λ h. (h.rows, h.by)) (λ p. record { rows = p.0; by = p.1 }) (λ _. refl)
