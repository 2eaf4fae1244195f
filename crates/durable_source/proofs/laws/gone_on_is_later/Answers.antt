use Rattle.durable_source.proofs.Lives.{gone_on_is_later}
use Rattle.durable_source.proofs.laws.gone_on_is_later.Goals as goal

pub returns : goal.returns
returns g c = gone_on_is_later g.row.D.Denot
