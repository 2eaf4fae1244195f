use Rattle.std.proofs.Common.{arith}
use Rattle.relay.proofs.Noting.{next_mark}
use Rattle.relay.proofs.touches.note_marks.Goals as goal

pub loop-mark-preserved : goal.loop-mark-preserved
loop-mark-preserved c = record {
  noted = rw (c.set.ensures.map, c.as_row.ensures)
      (next_mark c.args.gno c.args.stated.now.map c.loop-mark.stated.map c.loop-mark.mark-index c.args.marks.now c.mark-item.result c.loop-mark.invariant.noted c.loop-mark-test.true c.mark-item.is);
  room = omega (arith, c.set.ensures.room);
}
