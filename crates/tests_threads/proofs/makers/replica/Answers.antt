use Rattle.replica_shared.proofs.Standing.{new_is_new}
use Rattle.tests_threads.proofs.makers.replica.Goals as goal

pub returns : goal.returns
returns c = new_is_new _ _ _ _ _ _ c.in_ok-core.ensures.fresh
