use Rattle.replica_core.proofs.Kept.{holds, kept_letting_go}
use Rattle.replica_core.proofs.ReplicaCore.let_go.Goals as goal

pub invariant_of-self : goal.invariant_of-self
invariant_of-self g c = holds (kept_letting_go c.self.invariant.parts) (record { within = c.self.invariant.kept.within; none = λ keeps. cc })
