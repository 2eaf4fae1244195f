use Rattle.replica_core.proofs.Steps.{received_kept, answered}
use Rattle.replica_core.proofs.ReplicaCore.receive.Goals as goal

pub invariant_of-self : goal.invariant_of-self
invariant_of-self g c =
    received_kept c.self.invariant.parts _ _ c.receive.result c.receive.new.self c.self.invariant.kept (answered c.receive.result _ c.receive.ensures.answer) c.receive.ensures.ok c.receive.ensures.err
