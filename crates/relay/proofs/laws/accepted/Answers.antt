use Rattle.relay.proofs.Acceptable.{empty_is_acceptable, next_is_acceptable, beginning_is_acceptable, place_is_number}
use Rattle.relay.proofs.laws.accepted.Goals as goal

pub returns : goal.returns
returns c =
    record { empty = empty_is_acceptable; next = next_is_acceptable; beginning = beginning_is_acceptable; place = place_is_number }
