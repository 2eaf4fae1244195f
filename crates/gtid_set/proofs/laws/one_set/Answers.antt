use Rattle.gtid_set.proofs.OneForm.{one_set}
use Rattle.gtid_set.proofs.laws.one_set.Goals as goal

pub returns : goal.returns
returns c = one_set
