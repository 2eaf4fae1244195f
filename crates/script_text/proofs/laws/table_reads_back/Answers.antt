use Rattle.script_text.proofs.ReadBack.{tables_read_back}
use Rattle.script_text.proofs.laws.table_reads_back.Goals as goal

pub returns : goal.returns
returns c = tables_read_back
