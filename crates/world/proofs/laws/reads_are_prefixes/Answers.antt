use Rattle.world.proofs.LawsRuns.{prefixes, answered, reads_synced}
use Rattle.world.proofs.laws.reads_are_prefixes.Goals as goal

pub returns-clause-prefixes : goal.returns-clause-prefixes
returns-clause-prefixes c = prefixes

pub returns-clause-answered : goal.returns-clause-answered
returns-clause-answered c = answered

pub returns-clause-synced : goal.returns-clause-synced
returns-clause-synced c = reads_synced
