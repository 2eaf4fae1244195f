use Rattle.std.proofs.Common.{◌≡◌, ℕ, ◌<◌, slice_index_or}
use Rattle.source_core.specs.declared.transaction.Receipt.{Receipt}
use Rattle.source_shared.specs.Engine.{IsKnown}
use Rattle.source_shared.proofs.engine.Engine.end.Given as goal

abbrev pub invariant-loop-receipt : goal.invariant-loop-receipt
invariant-loop-receipt g l =
    (l.history ≡ l.initial.history) ×
    ((k : ℕ) (d : Receipt) → k < l.receipt-index → IsKnown l.initial.history (slice_index_or l.receipts k d))
