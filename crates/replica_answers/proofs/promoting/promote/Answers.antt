use Rattle.std.proofs.Common.{length}
use Rattle.replica_answers.specs.Conversation.{TellsPromoted}
use Rattle.replica_answers.proofs.Told.{lost_any, promoted_none, promoted_some}
use Rattle.replica_answers.proofs.promoting.promote.Goals as goal

pub returns-in-Ok : goal.returns-in-Ok
returns-in-Ok g c =
    let core = c.args.core.now in
    promoted_some core.source (length core.commits) c.in-Ok.identifier (g.W.Write.contents c.args.output.now) (g.W.Write.contents c.loop.output) (g.W.Write.contents c.tell_promoted.new.out)
    c.loop.invariant c.in_ok-tell_promoted-in-Ok.ensures

pub returns-in_err-next : goal.returns-in_err-next
returns-in_err-next g c =
    let core = c.args.core.now in
    let before = g.W.Write.contents c.args.output.now in
    let now = g.W.Write.contents c.loop.output in
    lost_any c.from_residual-in_err-next.result (TellsPromoted core.source (length core.commits) before now) (promoted_none core.source (length core.commits) before now c.loop.invariant)
