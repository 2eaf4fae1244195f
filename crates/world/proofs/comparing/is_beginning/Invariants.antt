use Rattle.std.proofs.Common.{◌≡◌, take}
use Rattle.world.proofs.comparing.is_beginning.Given as goal

-- so far they are the same
abbrev pub invariant-loop-i : goal.invariant-loop-i
invariant-loop-i l = take l.i l.records ≡ take l.i l.log
