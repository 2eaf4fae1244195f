use Rattle.std.proofs.Common.{arith}
use Rattle.relay.proofs.Noting.{next_write}
use Rattle.relay.proofs.touches.note_writes.Goals as goal

pub loop-change-preserved : goal.loop-change-preserved
loop-change-preserved c = record {
  noted = rw (c.set.ensures.map, c.target.ensures) (next_write c.args.gno c.args.rows.now.map c.loop-change.rows.map c.loop-change.change-index c.args.changes.now c.change-item.result
      c.loop-change.invariant.noted c.loop-change-test.true c.change-item.is);
  room = omega (arith, c.set.ensures.room);
}
