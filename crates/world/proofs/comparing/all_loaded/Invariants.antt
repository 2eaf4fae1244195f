use Rattle.std.proofs.Common.{take}
use Rattle.world.proofs.Alike.{AreLoaded}
use Rattle.world.proofs.comparing.all_loaded.Given as goal

-- the entries so far are loaded
abbrev pub invariant-loop-entry : goal.invariant-loop-entry
invariant-loop-entry l = AreLoaded (take l.entry-index l.entries) l.batch
