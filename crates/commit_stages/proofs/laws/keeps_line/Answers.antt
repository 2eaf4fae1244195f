use Rattle.commit_stages.proofs.Parts.{keeps_line}
use Rattle.commit_stages.proofs.laws.keeps_line.Goals as goal

pub returns : goal.returns
returns c = keeps_line
