use Rattle.std.specs.Arc.{arc_value}
use Rattle.replica_shared.specs.Queue.{IsPassOf}
use Rattle.replica_shared.proofs.shared.SharedReplica.steal.Given as goal

abbrev pub invariant-loop : goal.invariant-loop
invariant-loop g l =
    (goal.iterator-loop g).can_next l.iterator' × (goal.iterator-loop g).is_finite l.iterator' × IsPassOf (arc_value l.self.jobs) l.pass
