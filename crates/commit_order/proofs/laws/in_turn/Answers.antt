use Rattle.commit_order.proofs.Lines.{turn_is_next}
use Rattle.commit_order.proofs.laws.in_turn.Goals as goal

pub returns : goal.returns
returns c = turn_is_next
