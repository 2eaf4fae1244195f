use Rattle.gtid_set.proofs.Firsts.{which, fits, next}
use Rattle.gtid_set.proofs.laws.first_ids.Goals as goal

pub returns-clause-which : goal.returns-clause-which
returns-clause-which c = which

pub returns-clause-fits : goal.returns-clause-fits
returns-clause-fits c = fits

pub returns-clause-next : goal.returns-clause-next
returns-clause-next c = next
