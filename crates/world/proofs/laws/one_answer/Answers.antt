use Rattle.world.proofs.LawsOne.{only_answer, only_log}
use Rattle.world.proofs.laws.one_answer.Goals as goal

pub returns-clause-replies : goal.returns-clause-replies
returns-clause-replies c = only_answer

pub returns-clause-log : goal.returns-clause-log
returns-clause-log c = only_log
