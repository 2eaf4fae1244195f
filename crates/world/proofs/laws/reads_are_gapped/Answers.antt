use Rattle.world.proofs.LawsRuns.{gapped_reads}
use Rattle.world.proofs.laws.reads_are_gapped.Goals as goal

pub returns : goal.returns
returns c = gapped_reads
