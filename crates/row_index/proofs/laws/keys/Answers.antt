use Rattle.row_index.proofs.Keys.{none_indexed, keys_follow}
use Rattle.row_index.proofs.laws.keys.Goals as goal

pub returns-clause-none : goal.returns-clause-none
returns-clause-none c = none_indexed

pub returns-clause-follow : goal.returns-clause-follow
returns-clause-follow c = keys_follow
