use Rattle.log_tools.proofs.HeadBack.{heads_read_back}
use Rattle.log_tools.proofs.laws.head_reads_back.Goals as goal

pub returns : goal.returns
returns c = heads_read_back
