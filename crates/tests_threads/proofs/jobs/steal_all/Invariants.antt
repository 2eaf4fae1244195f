use Rattle.replica_shared.specs.Queue.{IsPassOf}
use Rattle.tests_threads.proofs.jobs.steal_all.Given as goal

abbrev pub invariant-loop : goal.invariant-loop
invariant-loop g l =
    (goal.iterator-loop g).can_next l.iterator' × (goal.iterator-loop g).is_finite l.iterator' × IsPassOf l.jobs l.pass
