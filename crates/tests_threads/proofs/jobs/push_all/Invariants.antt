use Rattle.std.proofs.Common.{◌≡◌, ◌<◌}
use Rattle.replica_shared.specs.Queue.{IsPassOf, hand_of}
use Rattle.tests_threads.proofs.jobs.push_all.Given as goal

abbrev pub invariant-loop-gno : goal.invariant-loop-gno
invariant-loop-gno g l = IsPassOf l.jobs l.pass × (l.pass.id ≡ 0) × ((hand_of l.pass).pushed < l.gno)
