use Rattle.std.proofs.Common.{arith}
use Rattle.vector_store.proofs.Gaps.{back_moved, back_stays}
use Rattle.vector_store.proofs.put.move_gap.Goals as goal

pub returns-then-behind-end-clause-back : goal.returns-then-behind-end-clause-back
returns-then-behind-end-clause-back c =
    let gap = c.args.gap in
    let r = c.requires in
    back_moved c.args.rows.now gap.start gap.end c.args.behind r.gap.rises r.gap.within r.within c.copy_within.new.self c.copy_within.ensures.after

pub returns-else-behind-end-clause-back : goal.returns-else-behind-end-clause-back
returns-else-behind-end-clause-back c =
    let gap = c.args.gap in
    let r = c.requires in
    back_stays c.args.rows.now gap.start gap.end c.args.behind r.gap.rises r.gap.within r.within (omega arith)
