use Rattle.row_locks.proofs.OneSession.{taken_by_one, released_by_one}
use Rattle.row_locks.proofs.laws.one_session.Goals as goal

pub returns-clause-taken : goal.returns-clause-taken
returns-clause-taken c = taken_by_one

pub returns-clause-released : goal.returns-clause-released
returns-clause-released c = released_by_one
