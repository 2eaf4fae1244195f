use Rattle.std.proofs.Common.{sym, subst, []}
use Rattle.writeset_history.specs.History.{History}
use Rattle.writeset_trackers.specs.Agreement.{IsHistoryOf}
use Rattle.writeset_trackers.proofs.Steps.{of_none}
use Rattle.writeset_trackers.proofs.WriteSetTracker.with_limit.Goals as goal

pub returns-clause-new : goal.returns-clause-new
returns-clause-new c ts = subst (λ (h : History). IsHistoryOf ts [] h) (sym c.in_ok-history.ensures) (of_none ts c.args.limit)
