use Rattle.replica_core.proofs.Steps.{received_kept}
use Rattle.replica_core.proofs.ReplicaCore.receive_own.Goals as goal

pub invariant_of-self : goal.invariant_of-self
invariant_of-self g c =
    received_kept c.self.invariant.parts _ _ c.receive_own.result c.receive_own.new.self c.self.invariant.kept c.receive_own.ensures.answer c.receive_own.ensures.ok c.receive_own.ensures.err
