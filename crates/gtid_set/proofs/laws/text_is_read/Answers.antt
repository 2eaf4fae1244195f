use Rattle.gtid_set.proofs.OneForm.{text_is_read, text_gives_set}
use Rattle.gtid_set.proofs.laws.text_is_read.Goals as goal

pub returns-clause-read : goal.returns-clause-read
returns-clause-read c = text_is_read

pub returns-clause-gives : goal.returns-clause-gives
returns-clause-gives c = text_gives_set
