use Rattle.world.proofs.LawsRuns.{only_synced}
use Rattle.world.proofs.laws.nothing_unsynced_is_accepted.Goals as goal

pub returns : goal.returns
returns c = only_synced
