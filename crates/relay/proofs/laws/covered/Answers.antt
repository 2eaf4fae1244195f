use Rattle.relay.proofs.Covered.{covered_by_parent}
use Rattle.relay.proofs.laws.covered.Goals as goal

pub returns : goal.returns
returns c = covered_by_parent
