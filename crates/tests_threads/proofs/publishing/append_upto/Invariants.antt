use Rattle.std.proofs.Common.{◌≡◌, ◌+◌, true, length}
use Rattle.tests_threads.proofs.publishing.append_upto.Given as goal

abbrev pub invariant-loop-gno : goal.invariant-loop-gno
invariant-loop-gno l = (l.plain.upto + length l.plain.waiting + 1 ≡ l.gno) × (l.plain.preserve ≡ true) × (l.plain.more ≡ 0)
