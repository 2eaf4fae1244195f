use Rattle.write_set.proofs.Rising.{just_the_digests, digests_rise}
use Rattle.write_set.proofs.laws.digest_sets.Goals as goal

pub returns-clause-members : goal.returns-clause-members
returns-clause-members c = just_the_digests

pub returns-clause-rising : goal.returns-clause-rising
returns-clause-rising c = digests_rise
