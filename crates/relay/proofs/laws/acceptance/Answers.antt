use Rattle.relay.proofs.Judged.{accepts_the_acceptable}
use Rattle.relay.proofs.laws.acceptance.Goals as goal

pub returns : goal.returns
returns c = accepts_the_acceptable
