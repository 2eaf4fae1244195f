use Rattle.std.proofs.Common.{sym, subst, reverse}
use Rattle.writeset_trackers.specs.Agreement.{IsHistoryOf}
use Rattle.writeset_trackers.proofs.Stamps.{is_exact, is_covered}
use Rattle.writeset_trackers.proofs.WriteSetTrackerTracker.stamp.Goals as goal

pub returns-clause-exact : goal.returns-clause-exact
returns-clause-exact c ts is of_ =
    is_exact ts c.args.log.now.entries c.args.t.now c.args.w.now (record { of_tables = of_; seen = c.args.self.now; is = is; h = c.self.inside.history; same = c.self.view_is })
    c.args.order_parent c.parent_by-parent.result c.parent_by-parent.ensures

pub returns-clause-covers : goal.returns-clause-covers
returns-clause-covers c ts is of_ =
    is_covered ts c.args.log.now.entries c.args.t.now c.args.w.now (record { of_tables = of_; seen = c.args.self.now; is = is; h = c.self.inside.history; same = c.self.view_is })
    c.args._session c.args.order_parent c.parent_by-parent.result c.parent_by-parent.ensures c.requires.order

pub returns-clause-goes_on : goal.returns-clause-goes_on
returns-clause-goes_on c ts is of_ = c.note.ensures.goes_on ts c.args._session c.parent_by-parent.result (subst (IsHistoryOf ts (reverse c.args.log.now.entries)) (sym c.self.view_is) is) of_
