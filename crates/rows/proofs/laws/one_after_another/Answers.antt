use Rattle.rows.proofs.Parents.{no_orphan_of_joined, no_orphan_behind}
use Rattle.rows.proofs.laws.one_after_another.Goals as goal

pub returns-clause-joined : goal.returns-clause-joined
returns-clause-joined c = no_orphan_of_joined

pub returns-clause-behind : goal.returns-clause-behind
returns-clause-behind c = no_orphan_behind
