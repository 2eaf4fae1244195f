use Rattle.std.proofs.Common.{◌≡◌, take}
use Rattle.source_core.specs.Calls.{receipts_for}
use Rattle.source_core.proofs.committing.receipts_of.Given as goal

abbrev pub invariant-loop-i : goal.invariant-loop-i
invariant-loop-i l = l.given.items ≡ receipts_for (take l.i l.sessions) (take l.i l.records)
