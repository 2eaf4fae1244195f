use Rattle.relay.proofs.Stated.{acceptable_states_given}
use Rattle.relay.proofs.laws.given.Goals as goal

pub returns : goal.returns
returns c = acceptable_states_given
