use Rattle.writeset_history.proofs.Entered.{enters_each}
use Rattle.writeset_history.proofs.laws.entered.Goals as goal

pub returns : goal.returns
returns c = enters_each
