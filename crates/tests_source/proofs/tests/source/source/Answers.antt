use Rattle.std.proofs.Common.{refl, arith}
use Rattle.tests_source.proofs.tests.source.source.Goals as goal

pub new-requires-clause-fits : goal.new-requires-clause-fits
new-requires-clause-fits c = c.if-not-fits.ensures.fit.0 refl

pub new-requires-clause-some : goal.new-requires-clause-some
new-requires-clause-some c = omega arith

pub new-requires-clause-few : goal.new-requires-clause-few
new-requires-clause-few c = omega arith

pub new-requires-clause-tracker : goal.new-requires-clause-tracker
new-requires-clause-tracker c = tt
