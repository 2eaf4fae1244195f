use Rattle.std.proofs.Common.{sym, ap, subst, reverse}
use Rattle.tracker_trait.specs.Law.{stamped}
use Rattle.writeset_trackers.specs.Agreement.{IsHistoryOf}
use Rattle.writeset_trackers.specs.Places.{AreLast, Sessions}
use Rattle.writeset_trackers.proofs.Last.{none_more_last}
use Rattle.writeset_trackers.proofs.WriteSetSessionResumable.observe.Goals as goal

pub returns-clause-goes_on : goal.returns-clause-goes_on
returns-clause-goes_on c ts parent is of_ = (
  c.note.ensures.goes_on ts 0 parent (subst (IsHistoryOf ts (reverse c.args.log.now.entries)) (sym (ap (λ (s : Sessions). s.history) c.self.view_is)) is.0) of_,
  subst (AreLast (reverse (stamped c.args.log.now.entries c.args.t.now 0 parent))) (sym (ap (λ (s : Sessions). s.last) c.self.view_is))
      (none_more_last c.args.log.now.entries c.args.t.now parent _ is.1),
)
