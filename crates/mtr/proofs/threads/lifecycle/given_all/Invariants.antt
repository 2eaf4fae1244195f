use Rattle.std.proofs.Common.{◌≡◌, ◌++◌}
use Rattle.std.specs.Vec.Iter.{into_iter_items}
use Rattle.mtr.proofs.threads.lifecycle.given_all.Given as goal

-- the receipts so far, and those that are still to come
abbrev pub invariant-loop-receipt : goal.invariant-loop-receipt
invariant-loop-receipt g l =
    (goal.iterator-loop-receipt g).can_next l.receipt-iterator ×
    (goal.iterator-loop-receipt g).is_finite l.receipt-iterator ×
    (l.all.items ++ into_iter_items l.receipt-iterator ≡ l.fn.receipts.items)
