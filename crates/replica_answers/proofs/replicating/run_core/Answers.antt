use Rattle.std.proofs.Common.{length}
use Rattle.replica_answers.specs.Conversation.{Converses, AnswersAs, TellsPromoted}
use Rattle.replica_answers.proofs.Told.{lost_any, unless_then, or_lost, told_by, stopped_by, answers_none, answers_ended, answers_promoted}
use Rattle.replica_answers.proofs.replicating.run_core.Goals as goal

pub returns-in_err-replica : goal.returns-in_err-replica
returns-in_err-replica g c =
    let names = g.K.ReplicaNaming.names in
    let before = g.W.Write.contents c.args.output.now in
    lost_any c.from_residual.result (AnswersAs names before before) (answers_none names before)

pub returns : goal.returns
returns g c =
    let names = g.K.ReplicaNaming.names in
    let before = g.W.Write.contents c.args.output.now in
    let told = g.W.Write.contents c.meet-ended.new.output in
    let printed = g.W.Write.contents c.promote.new.output in
    let core = c.end-core.result.0 in
    let converses = told_by c.meet-ended.result.0 c.in-Ok-Promote.field-0 (Converses names before told) c.in-Ok-Promote.is c.meet-ended.ensures in
    unless_then c.promote.result (TellsPromoted core.source (length core.commits) told printed) (AnswersAs names before printed) c.promote.ensures
    (answers_promoted names before told printed core.source (length core.commits) converses c.end-core.ensures.named.1)

pub returns-in-Err-ended : goal.returns-in-Err-ended
returns-in-Err-ended g c =
    let names = g.K.ReplicaNaming.names in
    let before = g.W.Write.contents c.args.output.now in
    let told = g.W.Write.contents c.meet-ended.new.output in
    or_lost c.in-Err-ended.stop (Converses names before told) (AnswersAs names before told)
    (stopped_by c.meet-ended.result.0 c.in-Err-ended.stop (Converses names before told) c.in-Err-ended.is c.meet-ended.ensures) (answers_ended names before told)

pub returns-in-Ok-Read : goal.returns-in-Ok-Read
returns-in-Ok-Read g c =
    let names = g.K.ReplicaNaming.names in
    let before = g.W.Write.contents c.args.output.now in
    let told = g.W.Write.contents c.meet-ended.new.output in
    answers_ended names before told (told_by c.meet-ended.result.0 c.in-Ok-Read.field-0 (Converses names before told) c.in-Ok-Read.is c.meet-ended.ensures)
