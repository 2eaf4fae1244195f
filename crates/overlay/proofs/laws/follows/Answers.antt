use Rattle.overlay.proofs.Follow.{Follows-none, Follows-step, Follows-pushed, Follows-moved}
use Rattle.overlay.proofs.laws.follows.Goals as goal

pub returns-clause-none : goal.returns-clause-none
returns-clause-none c = Follows-none

pub returns-clause-step : goal.returns-clause-step
returns-clause-step c = λ ts db pending after change left f fits parent value. Follows-step change left f fits parent value

pub returns-clause-pushed : goal.returns-clause-pushed
returns-clause-pushed c = λ ts db pending after change next f h. Follows-pushed change next f h

pub returns-clause-moved : goal.returns-clause-moved
returns-clause-moved c = λ ts db pending after other f same. Follows-moved f same
