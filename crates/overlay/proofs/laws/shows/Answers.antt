use Rattle.overlay.proofs.Follow.{get-Follows, seen-Follows}
use Rattle.overlay.proofs.laws.shows.Goals as goal

pub returns-clause-rows : goal.returns-clause-rows
returns-clause-rows c = λ ts db pending after f. get-Follows f

pub returns-clause-after : goal.returns-clause-after
returns-clause-after c = λ ts db pending after f. seen-Follows f
