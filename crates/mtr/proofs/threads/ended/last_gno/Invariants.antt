use Rattle.std.proofs.Common.{take}
use Rattle.mtr.specs.Threads.{IsLast}
use Rattle.mtr.proofs.threads.ended.last_gno.Given as goal

abbrev pub invariant-loop-receipt : goal.invariant-loop-receipt
invariant-loop-receipt l = IsLast (take l.receipt-index l.receipts) l.last
