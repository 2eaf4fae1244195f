use Rattle.published.proofs.merge.enter.Goals as goal
use Rattle.published.proofs.Put.{put_next}

pub loop-id-preserved : goal.loop-id-preserved
loop-id-preserved c db =
    put_next _ _ _ _ c.loop-id-item.result _ _ c.loop-id-test.true c.loop-id-item.is c.insert.ensures.was_ordered c.in_ok-insert.ensures.entries (c.loop-id.invariant db)
