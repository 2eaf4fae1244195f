use Rattle.script_text.proofs.ReadBack.{bases_read_back}
use Rattle.script_text.proofs.laws.base_reads_back.Goals as goal

pub returns : goal.returns
returns c = bases_read_back
