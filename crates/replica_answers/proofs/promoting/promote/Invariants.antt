use Rattle.std.proofs.Common.{◌≡◌}
use Rattle.replica_answers.proofs.promoting.promote.Given as goal

-- nothing was written yet
abbrev pub invariant-loop : goal.invariant-loop
invariant-loop g l = g.W.Write.contents l.output ≡ g.W.Write.contents l.fn.output
