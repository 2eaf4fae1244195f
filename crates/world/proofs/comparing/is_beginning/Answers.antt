use Rattle.std.proofs.Common.{refl}
use Rattle.world.proofs.Alike.{prefix_walked}
use Rattle.world.proofs.comparing.is_beginning.Goals as goal

pub returns : goal.returns
returns c = (λ _. prefix_walked c.args.records.now c.args.log.now c.loop-i.i c.loop-i.auto.i-end c.loop-i-test.false c.if-records-log.false c.loop-i.invariant, λ _. refl)
