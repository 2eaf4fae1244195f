use Rattle.overlay.proofs.ValueRows.{value_is_over}
use Rattle.overlay.proofs.laws.values.Goals as goal

pub returns : goal.returns
returns c = value_is_over
