use Rattle.overlay.proofs.Joining.{joined-more, find-joined_all, joined_all_rises}
use Rattle.overlay.proofs.Apart.{not_yet_joined}
use Rattle.overlay.proofs.laws.joined.Goals as goal

pub returns-clause-goes_on : goal.returns-clause-goes_on
returns-clause-goes_on c = joined-more

pub returns-clause-rows : goal.returns-clause-rows
returns-clause-rows c = find-joined_all

pub returns-clause-rises : goal.returns-clause-rises
returns-clause-rises c = joined_all_rises

pub returns-clause-not_yet : goal.returns-clause-not_yet
returns-clause-not_yet c = not_yet_joined
