use Rattle.std.proofs.Common.{refl}
use Rattle.embedding_files.proofs.Holds.{at_its_own}
use Rattle.embedding_files.proofs.opening.core_at.Goals as goal

pub returns-clause-at : goal.returns-clause-at
returns-clause-at c = at_its_own c.in_ok-resume.field-0 c.in_ok-resume.ensures refl
