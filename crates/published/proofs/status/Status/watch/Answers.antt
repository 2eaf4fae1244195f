use Rattle.std.proofs.Common.{rules}
use Rattle.published.proofs.Words.{forks}
use Rattle.published.proofs.status.Status.watch.Goals as goal

pub split_pass-pass-requires : goal.split_pass-pass-requires
split_pass-pass-requires c = (search rules, (search rules, (search rules, forks _ _)))
