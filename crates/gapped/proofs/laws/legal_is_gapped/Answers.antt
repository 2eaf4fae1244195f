use Rattle.gapped.proofs.Legally.{legal_is_gapped, waiting_is_good}
use Rattle.gapped.proofs.laws.legal_is_gapped.Goals as goal

pub returns-clause-legal : goal.returns-clause-legal
returns-clause-legal c = legal_is_gapped

pub returns-clause-waiting : goal.returns-clause-waiting
returns-clause-waiting c = waiting_is_good
