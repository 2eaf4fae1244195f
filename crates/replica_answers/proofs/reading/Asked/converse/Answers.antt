use Rattle.store_trait.specs.declared.Op.{Op}
use Rattle.std.proofs.Common.{List, ℕ, Option}
use Rattle.replica_answers.specs.Conversation.{TellsAll}
use Rattle.replica_answers.proofs.Told.{tells_then, lost_then}
use Rattle.replica_answers.proofs.reading.Asked.converse.Goals as goal

pub returns-in_err-end : goal.returns-in_err-end
returns-in_err-end g c =
    let tells = λ (old : List Op) (before : Option (List ℕ)). TellsAll g.K.ReplicaNaming.names old c.answer_next.new.seat before (g.W.Write.contents c.answer_next.new.output) in
    lost_then c.from_residual.result c.in_err-end.field-0.0 (tells c.loop.seat (g.W.Write.contents c.loop.output)) (tells c.args.seat.now (g.W.Write.contents c.args.output.now))
    c.from_residual.ensures.1 c.in_err-end.ensures (λ then. tells_then c.loop.invariant then)

pub returns-in-Some : goal.returns-in-Some
returns-in-Some g c = tells_then c.loop.invariant c.in_ok-end.ensures

pub loop-preserved : goal.loop-preserved
loop-preserved g c = tells_then c.loop.invariant c.in_ok-end.ensures
