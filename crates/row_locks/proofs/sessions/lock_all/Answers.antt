use Rattle.std.proofs.Common.{arith}
use Rattle.row_locks.proofs.Moves.{moves_on, also_held-next}
use Rattle.row_locks.proofs.sessions.lock_all.Goals as goal

pub loop-one-preserved : goal.loop-one-preserved
loop-one-preserved g c = (
  also_held-next g.L.Lock.lock c.args.held.now.map c.loop-one.held.map c.lock_one.new.held.map c.args.locks.now c.loop-one.one-index c.one-item.result c.loop-one-test.true c.loop-one.invariant.0
      (rw (← c.one-item.is, ← c.lock-mode.ensures) c.lock_one.ensures.held),
  moves_on c.args.held.now.map c.loop-one.held.map c.lock_one.new.held.map c.args.tally.now.map c.loop-one.tally.map c.lock_one.new.tally.map c.loop-one.invariant.1 c.lock_one.ensures.counts,
  omega arith,
  omega arith,
)
