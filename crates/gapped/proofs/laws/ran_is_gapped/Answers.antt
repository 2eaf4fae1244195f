use Rattle.gapped.proofs.Choosing.{first_are_chosen, longer_log}
use Rattle.gapped.proofs.Running.{ran_is_gapped}
use Rattle.gapped.proofs.laws.ran_is_gapped.Goals as goal

pub returns-clause-ran : goal.returns-clause-ran
returns-clause-ran c = ran_is_gapped

pub returns-clause-first : goal.returns-clause-first
returns-clause-first c = first_are_chosen

pub returns-clause-longer : goal.returns-clause-longer
returns-clause-longer c = longer_log
