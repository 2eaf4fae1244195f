use Rattle.replica_answers.specs.Conversation.{not_closed}
use Rattle.replica_answers.proofs.Told.{tells_plain}
use Rattle.replica_answers.proofs.reading.Asked.answer.Goals as goal

pub returns-in_ok-writeln-in-Some-2 : goal.returns-in_ok-writeln-in-Some-2
returns-in_ok-writeln-in-Some-2 g c =
    tells_plain g.K.ReplicaNaming.names c.args.seat.now (g.W.Write.contents c.args.out.now) (g.W.Write.contents c.writeln.new.self) not_closed tt c.in_ok-writeln-in-Some-2.ensures.bytes
