use Rattle.std.proofs.Common.{subst}
use Rattle.any_tracker.specs.Any.{agrees}
use Rattle.any_tracker.specs.declared.AnyTracker.{AnyTracker}
use Rattle.any_tracker.proofs.AnyTrackerResumable.observe.Goals as goal

pub returns-in-Writeset-clause-goes_on : goal.returns-in-Writeset-clause-goes_on
returns-in-Writeset-clause-goes_on c ts parent is =
    c.observe-in-Writeset.ensures.goes_on ts parent (subst (λ (s : AnyTracker). agrees s ts c.args.log.now.entries) c.in-Writeset.is is)

pub returns-in-WritesetSession-clause-goes_on : goal.returns-in-WritesetSession-clause-goes_on
returns-in-WritesetSession-clause-goes_on c ts parent is =
    c.observe-in-WritesetSession.ensures.goes_on ts parent (subst (λ (s : AnyTracker). agrees s ts c.args.log.now.entries) c.in-WritesetSession.is is)
