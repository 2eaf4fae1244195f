use Rattle.std.proofs.Common.{arith}
use Rattle.relay.proofs.Noting.{next_ref}
use Rattle.relay.proofs.touches.note_refs.Goals as goal

pub loop-row-preserved : goal.loop-row-preserved
loop-row-preserved c = record {
  noted = rw (c.set.ensures.map, c.last_touch-written.ensures)
      (next_ref c.args.gno c.args.rows.now.map c.loop-row.rows.map c.loop-row.row-index c.args.refs.now _ c.loop-row.invariant.noted c.loop-row-test.true);
  room = omega (arith, c.set.ensures.room);
}
