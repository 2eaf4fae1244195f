use Rattle.std.proofs.Common.{◌≡◌, ◌+◌, ◌-◌, ◌≤◌}
use Rattle.replica_core.specs.Core.{AreMarked}
use Rattle.replica_core.proofs.ids.committed_ids.Given as goal

abbrev pub invariant-loop-gno : goal.invariant-loop-gno
invariant-loop-gno l = record {
  low : l.low ≡ l.fn.scheduler.low;
  behind : l.low + 1 ≤ l.gno;
  end : l.gno-end ≡ l.fn.last + 1;
  marked : AreMarked l.fn.source l.fn.scheduler (l.gno - 1) l.ids;
}
