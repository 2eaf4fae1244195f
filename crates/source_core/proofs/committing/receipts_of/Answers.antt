use Rattle.std.proofs.Common.{◌∙◌, ◌++◌, ◌∷◌, []}
use Rattle.source_core.proofs.Commit.Loops.{one_receipt}
use Rattle.source_core.proofs.committing.receipts_of.Goals as goal

pub loop-i-preserved : goal.loop-i-preserved
loop-i-preserved c =
    let sessions = c.args.sessions.now in
    let records = c.args.records.now in
    let i = c.loop-i.i in
    let made = c.index-records-i.result in
    c.in_ok-push.ensures.items
    ∙ (λ k. c.loop-i.invariant k ++ c.in_ok-receipt_for.ensures k ∷ [])
    ∙ one_receipt sessions records i made c.requires c.loop-i-test.true c.index-records-i.is
