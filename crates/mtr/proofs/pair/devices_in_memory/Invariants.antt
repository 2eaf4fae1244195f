use Rattle.std.proofs.Common.{◌≡◌, length}
use Rattle.mtr.proofs.pair.devices_in_memory.Given as goal

abbrev pub invariant-loop : goal.invariant-loop
invariant-loop l = length l.spare.items ≡ l.counter
