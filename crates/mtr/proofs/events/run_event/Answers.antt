use Rattle.std.proofs.Common.{Some}
use Rattle.world.specs.Seen.{seen}
use Rattle.mtr.proofs.Runs.{goes_one}
use Rattle.mtr.proofs.events.run_event.Goals as goal

pub returns-clause-goes_on : goal.returns-clause-goes_on
returns-clause-goes_on g c =
    goes_one g.R.RowStore.contents (seen c.args.world.now) (seen c.step.new.self) c.args.event.now c.step.result (Some c.args.text.now.items) (Some c.put_reply.new.out.items) c.put_reply.result
    c.step.ensures.goes_on c.put_reply.ensures
