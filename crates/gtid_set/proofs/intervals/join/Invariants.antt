use Rattle.gtid_set.proofs.Joining.{AreJoined}
use Rattle.gtid_set.proofs.intervals.join.Given as goal

abbrev pub invariant-loop-i : goal.invariant-loop-i
invariant-loop-i l = AreJoined l.fn.intervals l.intervals l.kept l.i
