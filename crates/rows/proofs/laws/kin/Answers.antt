use Rattle.rows.proofs.Parents.{kin_are_few, no_kin_of_others, no_kin_unrelated}
use Rattle.rows.proofs.laws.kin.Goals as goal

pub returns-clause-few : goal.returns-clause-few
returns-clause-few c = kin_are_few

pub returns-clause-of_others : goal.returns-clause-of_others
returns-clause-of_others c = no_kin_of_others

pub returns-clause-unrelated : goal.returns-clause-unrelated
returns-clause-unrelated c = no_kin_unrelated
