use Rattle.moved_numbers.proofs.Legally.{rest_is_legal, behind_is_legal, behind_leaves}
use Rattle.moved_numbers.proofs.laws.legal.Goals as goal

pub returns-clause-rest : goal.returns-clause-rest
returns-clause-rest c = rest_is_legal

pub returns-clause-behind : goal.returns-clause-behind
returns-clause-behind c = behind_is_legal

pub returns-clause-leaves : goal.returns-clause-leaves
returns-clause-leaves c = behind_leaves
