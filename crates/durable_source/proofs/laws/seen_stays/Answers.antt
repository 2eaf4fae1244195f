use Rattle.durable_source.proofs.Lives.{seen_stays}
use Rattle.durable_source.proofs.laws.seen_stays.Goals as goal

pub returns : goal.returns
returns c = seen_stays
