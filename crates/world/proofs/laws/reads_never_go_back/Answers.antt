use Rattle.world.proofs.LawsRuns.{never_back}
use Rattle.world.proofs.laws.reads_never_go_back.Goals as goal

pub returns : goal.returns
returns c = never_back
