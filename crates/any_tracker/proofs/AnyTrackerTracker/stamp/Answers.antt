use Rattle.std.proofs.Common.{◌≡◌, sym, subst, List}
use Rattle.schema.specs.declared.Table.{Table}
use Rattle.tracker_trait.specs.Law.{IsOfTables}
use Rattle.tracker_trait.specs.Parent.{dependency_of}
use Rattle.any_tracker.specs.Any.{agrees, kind_of}
use Rattle.any_tracker.specs.declared.AnyTracker.{AnyTracker}
use Rattle.any_tracker.proofs.AnyTrackerTracker.stamp.Goals as goal

pub returns-in-Writeset-clause-exact : goal.returns-in-Writeset-clause-exact
returns-in-Writeset-clause-exact c =
    subst (λ (s : AnyTracker). (ts : List Table) → agrees s ts c.args.log.now.entries → IsOfTables ts c.args.t.now c.args.w.now
    → c.stamp-in-Writeset.result ≡ dependency_of (kind_of s) ts c.args.log.now.entries c.args.t.now c.args.session c.args.order_parent)
    (sym c.in-Writeset.is) c.stamp-in-Writeset.ensures.exact

pub returns-in-WritesetSession-clause-exact : goal.returns-in-WritesetSession-clause-exact
returns-in-WritesetSession-clause-exact c =
    subst (λ (s : AnyTracker). (ts : List Table) → agrees s ts c.args.log.now.entries → IsOfTables ts c.args.t.now c.args.w.now
    → c.stamp-in-WritesetSession.result ≡ dependency_of (kind_of s) ts c.args.log.now.entries c.args.t.now c.args.session c.args.order_parent)
    (sym c.in-WritesetSession.is) c.stamp-in-WritesetSession.ensures.exact
