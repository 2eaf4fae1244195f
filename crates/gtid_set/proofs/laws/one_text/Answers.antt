use Rattle.gtid_set.proofs.OneForm.{one_text}
use Rattle.gtid_set.proofs.laws.one_text.Goals as goal

pub returns : goal.returns
returns c = one_text
