use Rattle.std.proofs.Common.{sym, subst, List, [], ℕ, arith}
use Rattle.writeset_history.specs.History.{History}
use Rattle.writeset_trackers.specs.Agreement.{IsHistoryOf}
use Rattle.writeset_trackers.specs.Places.{AreLast}
use Rattle.writeset_trackers.proofs.Steps.{of_none}
use Rattle.writeset_trackers.proofs.Last.{none_last}
use Rattle.writeset_trackers.proofs.WriteSetSession.with_limit.Goals as goal

pub returns-clause-new : goal.returns-clause-new
returns-clause-new c ts = (
  subst (λ (h : History). IsHistoryOf ts [] h) (sym c.in_ok-history.ensures) (of_none ts c.args.limit),
  subst (λ (l : List ℕ). AreLast [] l) (sym (c.in_ok-last.ensures.items_if_clones_equal (λ y e. e))) (none_last 256 (omega arith)),
)
