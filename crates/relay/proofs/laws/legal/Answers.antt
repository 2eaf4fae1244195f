use Rattle.relay.proofs.Legal.{legal_is_acceptable, receives_of_log}
use Rattle.relay.proofs.laws.legal.Goals as goal

pub returns : goal.returns
returns c = record { acceptable = legal_is_acceptable; receives = receives_of_log }
