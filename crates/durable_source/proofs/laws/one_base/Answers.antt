use Rattle.durable_source.proofs.Lives.{one_base}
use Rattle.durable_source.proofs.laws.one_base.Goals as goal

pub returns : goal.returns
returns c = one_base
