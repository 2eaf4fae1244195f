use Rattle.replica_answers.specs.Conversation.{TellsAll}
use Rattle.replica_answers.proofs.reading.Asked.converse.Given as goal

-- all that was written since it began are answers
abbrev pub invariant-loop : goal.invariant-loop
invariant-loop g l = TellsAll g.K.ReplicaNaming.names l.fn.seat l.seat (g.W.Write.contents l.fn.output) (g.W.Write.contents l.output)
