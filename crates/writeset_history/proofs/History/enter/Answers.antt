use Rattle.std.proofs.Common.{refl}
use Rattle.writeset_history.proofs.Entered.{entered_more, room_more}
use Rattle.writeset_history.proofs.History.enter.Goals as goal

pub loop-digest-preserved : goal.loop-digest-preserved
loop-digest-preserved c = record {
  so_far = entered_more c.args.self.now c.loop-digest.self c.enter_one.new.self c.args.digests.now c.loop-digest.digest-index _ c.args.sequence c.loop-digest-test.true refl
      c.loop-digest.invariant.so_far c.enter_one.ensures;
  room = room_more c.loop-digest.self c.enter_one.new.self _ c.loop-digest.digest-index _ c.args.sequence c.enter_one.ensures c.loop-digest.invariant.room;
}
