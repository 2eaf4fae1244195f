use Rattle.std.proofs.Common.{rules}
use Rattle.replica_shared.proofs.coordinator.Coordinator.take_back.Goals as goal

pub keep-requires-clause-sound : goal.keep-requires-clause-sound
keep-requires-clause-sound g c = (c.requires (search rules)).0
