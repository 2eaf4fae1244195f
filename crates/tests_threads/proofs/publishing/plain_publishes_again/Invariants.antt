use Rattle.std.proofs.Common.{◌≡◌, true}
use Rattle.tests_threads.proofs.publishing.plain_publishes_again.Given as goal

abbrev pub invariant-loop-upto : goal.invariant-loop-upto
invariant-loop-upto g l = (l.plain.preserve ≡ true) × (l.plain.more ≡ 0)
