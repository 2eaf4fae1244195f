use Rattle.std.proofs.Common.{◌≡◌, length}
use Rattle.tests_pair.proofs.tests.makers.spare.Given as goal

abbrev pub invariant-loop : goal.invariant-loop
invariant-loop l = length l.devices.items ≡ l.counter
