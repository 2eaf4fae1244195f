use Rattle.moved_numbers.proofs.Acceptably.{rest_is_acceptable, rest_accepts, behind_is_acceptable, behind_accepts}
use Rattle.moved_numbers.proofs.Receiving.{rest_receives}
use Rattle.moved_numbers.proofs.laws.acceptable.Goals as goal

pub returns-clause-rest : goal.returns-clause-rest
returns-clause-rest c = rest_is_acceptable

pub returns-clause-accepts : goal.returns-clause-accepts
returns-clause-accepts c = rest_accepts

pub returns-clause-receives : goal.returns-clause-receives
returns-clause-receives c = rest_receives

pub returns-clause-behind : goal.returns-clause-behind
returns-clause-behind c = behind_is_acceptable

pub returns-clause-behind_accepts : goal.returns-clause-behind_accepts
returns-clause-behind_accepts c = behind_accepts
