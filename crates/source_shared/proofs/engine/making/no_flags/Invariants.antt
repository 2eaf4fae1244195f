use Rattle.std.proofs.Common.{◌≡◌, false, replicate}
use Rattle.source_shared.proofs.engine.making.no_flags.Given as goal

abbrev pub invariant-loop-place : goal.invariant-loop-place
invariant-loop-place l = l.out.items ≡ replicate l._place false
