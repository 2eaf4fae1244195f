use Rattle.tests_source.proofs.tests.trackers.follow.Given as goal

abbrev pub invariant-loop-session : goal.invariant-loop-session
invariant-loop-session g l = g.T.Tracker.agrees l.tracker l.schema l.log.entries
