use Rattle.std.proofs.Common.{take, drop, arith}
use Rattle.vector_store.proofs.Order.{order_parts}
use Rattle.vector_store.proofs.Gaps.{parted_found, is_found, parted_absent, is_absent}
use Rattle.vector_store.proofs.put.part.Goals as goal

pub place_near_end-requires : goal.place_near_end-requires
place_near_end-requires c = (order_parts (take c.args.gap.start c.args.rows.now) (drop c.args.gap.end c.args.rows.now) c.requires.order).0

pub returns-in-Ok-clause-parted : goal.returns-in-Ok-clause-parted
returns-in-Ok-clause-parted c =
    let xs = take c.args.gap.start c.args.rows.now in
    let ys = drop c.args.gap.end c.args.rows.now in
    rw (c.move_gap.ensures.front, c.move_gap.ensures.back) (parted_found xs ys c.args.id c.in-Ok.place c.requires.order c.requires.behind c.in-Ok.ensures)

pub returns-in-Ok-clause-room : goal.returns-in-Ok-clause-room
returns-in-Ok-clause-room c =
    let xs = take c.args.gap.start c.args.rows.now in
    let ys = drop c.args.gap.end c.args.rows.now in
    rw (is_found xs ys c.args.id c.in-Ok.place c.requires.order c.requires.behind c.in-Ok.ensures) (omega (arith, c.move_gap.ensures.room))

pub returns-in-Err-clause-parted : goal.returns-in-Err-clause-parted
returns-in-Err-clause-parted c =
    let xs = take c.args.gap.start c.args.rows.now in
    let ys = drop c.args.gap.end c.args.rows.now in
    rw (c.move_gap-in-Err.ensures.front, c.move_gap-in-Err.ensures.back) (parted_absent xs ys c.args.id c.in-Err.place c.requires.order c.requires.behind c.in-Err.ensures)

pub returns-in-Err-clause-room : goal.returns-in-Err-clause-room
returns-in-Err-clause-room c =
    let xs = take c.args.gap.start c.args.rows.now in
    let ys = drop c.args.gap.end c.args.rows.now in
    rw (is_absent xs ys c.args.id c.in-Err.place c.requires.order c.requires.behind c.in-Err.ensures) (omega (arith, c.move_gap-in-Err.ensures.room))
