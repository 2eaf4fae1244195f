use Rattle.std.proofs.Common.{sym, subst, reverse}
use Rattle.writeset_trackers.specs.Agreement.{IsHistoryOf}
use Rattle.writeset_trackers.proofs.WriteSetTrackerResumable.observe.Goals as goal

pub returns-clause-goes_on : goal.returns-clause-goes_on
returns-clause-goes_on c ts parent is of_ = c.note.ensures.goes_on ts 0 parent (subst (IsHistoryOf ts (reverse c.args.log.now.entries)) (sym c.self.view_is) is) of_
