use Rattle.durable_source.proofs.Lives.{told_stays}
use Rattle.durable_source.proofs.laws.told_stays.Goals as goal

pub returns : goal.returns
returns c = told_stays
