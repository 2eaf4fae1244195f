use Rattle.std.proofs.Common.{◌∙◌, subst, arith}
use Rattle.source_shared.specs.Engine.{IsKnown}
use Rattle.source_shared.proofs.Places.{known_more, is_committed}
use Rattle.source_shared.proofs.engine.Engine.end.Goals as goal

pub loop-receipt-preserved : goal.loop-receipt-preserved
loop-receipt-preserved g c =
    let same = c.loop-receipt.invariant.0 in
    let found = c.find.ensures.found in
    let known : IsKnown c.self.inside.history c.receipt-item.result = subst (λ l. IsKnown l c.receipt-item.result) same (record { least = found.0; there = found.1 }) in
    (c.find.ensures.same ∙ same, known_more _ _ _ _ c.loop-receipt-test.true c.receipt-item.is known c.loop-receipt.invariant.1)

pub returns-clause-receipts : goal.returns-clause-receipts
returns-clause-receipts g c = λ k d h.
    is_committed _ _ _ c.self.invariant.receipts.history_is (c.loop-receipt.invariant.1 k d (omega (arith, h, c.loop-receipt-test.false)))
