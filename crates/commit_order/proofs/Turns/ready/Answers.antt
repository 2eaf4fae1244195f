use Rattle.commit_order.proofs.Places.{in_turn_of}
use Rattle.commit_order.proofs.Turns.ready.Goals as goal

pub returns-clause-in_turn : goal.returns-clause-in_turn
returns-clause-in_turn c = in_turn_of c.args.self.now c.shown.result c.shown.ensures
