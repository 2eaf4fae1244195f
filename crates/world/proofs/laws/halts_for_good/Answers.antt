use Rattle.world.proofs.LawsRuns.{for_good}
use Rattle.world.proofs.laws.halts_for_good.Goals as goal

pub returns : goal.returns
returns c = for_good
