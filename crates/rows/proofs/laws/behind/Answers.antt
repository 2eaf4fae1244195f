use Rattle.rows.proofs.Frame.{applies_behind}
use Rattle.rows.proofs.laws.behind.Goals as goal

pub returns : goal.returns
returns c = applies_behind
