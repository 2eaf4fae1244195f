use Rattle.world.proofs.LawsRuns.{numbers_in_order, never_fall}
use Rattle.world.proofs.laws.published_within.Goals as goal

pub returns-clause-in_order : goal.returns-clause-in_order
returns-clause-in_order c = numbers_in_order

pub returns-clause-never_fall : goal.returns-clause-never_fall
returns-clause-never_fall c = never_fall
