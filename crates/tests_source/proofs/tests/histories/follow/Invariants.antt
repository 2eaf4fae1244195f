use Rattle.writeset_history.specs.History.{IsUpTo}
use Rattle.tests_source.proofs.tests.histories.follow.Given as goal

abbrev pub invariant-loop-before : goal.invariant-loop-before
invariant-loop-before g l = IsUpTo l.history l.before-counter
