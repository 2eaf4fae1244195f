use Rattle.writeset_history.proofs.Entered.{kept_up_to}
use Rattle.writeset_history.proofs.laws.up_to.Goals as goal

pub returns : goal.returns
returns c = kept_up_to
