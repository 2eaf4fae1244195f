use Rattle.std.proofs.Common.{◌-◌}
use Rattle.scheduler.proofs.Marks.{IsPassing}
use Rattle.scheduler.proofs.pass.Given as goal

-- the mark has come as far as this, and the same numbers are committed
abbrev pub invariant-loop-then : goal.invariant-loop-then
invariant-loop-then l = IsPassing l.low l.most l.fn.ring l.then l.ring

abbrev pub decreases-loop-then : goal.decreases-loop-then
decreases-loop-then l = l.most - l.then
