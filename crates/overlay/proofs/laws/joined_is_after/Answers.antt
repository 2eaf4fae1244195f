use Rattle.overlay.proofs.Apart.{joined_is_after, batch_is_after}
use Rattle.overlay.proofs.laws.joined_is_after.Goals as goal

pub returns-clause-joined : goal.returns-clause-joined
returns-clause-joined c = joined_is_after

pub returns-clause-batch : goal.returns-clause-batch
returns-clause-batch c = batch_is_after
