use Rattle.std.proofs.Common.{◌≡◌, take}
use Rattle.tests_source.proofs.tests.recovering.copies.Given as goal

abbrev pub invariant-loop-made : goal.invariant-loop-made
invariant-loop-made l = l.copied.items ≡ take l.made-index l.log
