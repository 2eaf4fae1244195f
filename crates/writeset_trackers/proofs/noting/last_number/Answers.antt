use Rattle.std.proofs.Common.{◌∙◌, ap, max, refl}
use Rattle.writeset_trackers.proofs.Exact.{one_number_more}
use Rattle.writeset_trackers.proofs.noting.last_number.Goals as goal

pub loop-digest-preserved : goal.loop-digest-preserved
loop-digest-preserved c =
    one_number_more c.args.history.now c.args.digests.now c.loop-digest.digest-index _ _ _ c.loop-digest-test.true refl c.loop-digest.invariant
    (c.max-last.ensures ∙ ap (max c.loop-digest.last) c.look.ensures)
