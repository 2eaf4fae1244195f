use Rattle.world.proofs.LawsRuns.{once}
use Rattle.world.proofs.laws.each_commit_once.Goals as goal

pub returns : goal.returns
returns c = once
