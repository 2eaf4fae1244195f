use Rattle.durable_source.proofs.Lives.{flush_is_later, sync_is_later, rest_is_later}
use Rattle.durable_source.proofs.laws.calls_are_later.Goals as goal

pub returns-clause-flush : goal.returns-clause-flush
returns-clause-flush g c = flush_is_later

pub returns-clause-sync : goal.returns-clause-sync
returns-clause-sync g c = sync_is_later g.row.D.Denot

pub returns-clause-others : goal.returns-clause-others
returns-clause-others g c = rest_is_later
