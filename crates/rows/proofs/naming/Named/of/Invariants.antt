use Rattle.rows.proofs.Collected.{Collected}
use Rattle.rows.proofs.naming.Named.of.Given as goal

abbrev pub invariant-loop-i : goal.invariant-loop-i
invariant-loop-i l = Collected l.pairs l.i l.least l.mask l.values
