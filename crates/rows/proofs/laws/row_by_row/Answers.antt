use Rattle.rows.proofs.Effect.{each_row_is_left, effect_is_its_rows}
use Rattle.rows.proofs.laws.row_by_row.Goals as goal

pub returns-clause-each : goal.returns-clause-each
returns-clause-each c = each_row_is_left

pub returns-clause-determined : goal.returns-clause-determined
returns-clause-determined c = effect_is_its_rows
