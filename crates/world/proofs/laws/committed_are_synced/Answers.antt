use Rattle.world.proofs.LawsRuns.{committed_before}
use Rattle.world.proofs.laws.committed_are_synced.Goals as goal

pub returns : goal.returns
returns c = committed_before
