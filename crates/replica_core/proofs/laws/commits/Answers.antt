use Rattle.replica_core.proofs.Commits.{one_commit_more, one_commit_each, first_commits}
use Rattle.replica_core.proofs.laws.commits.Goals as goal

pub returns : goal.returns
returns c = record { one_more = one_commit_more; one_each = one_commit_each; first = first_commits }
