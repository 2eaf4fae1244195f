use Rattle.overlay.proofs.Apart.{apart-more, apart_without_conflict}
use Rattle.overlay.proofs.laws.apart.Goals as goal

pub returns-clause-goes_on : goal.returns-clause-goes_on
returns-clause-goes_on c = apart-more

pub returns-clause-no_conflict : goal.returns-clause-no_conflict
returns-clause-no_conflict c = apart_without_conflict
