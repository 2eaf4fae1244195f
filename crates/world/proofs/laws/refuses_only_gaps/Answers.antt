use Rattle.world.proofs.LawsRuns.{only_gaps}
use Rattle.world.proofs.laws.refuses_only_gaps.Goals as goal

pub returns : goal.returns
returns c = only_gaps
