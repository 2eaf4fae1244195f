use Rattle.std.proofs.Common.{rules}
use Rattle.published.proofs.Words.{finds}
use Rattle.published.proofs.status.look.Goals as goal

pub load_as-requires : goal.load_as-requires
load_as-requires g c = (search rules, (search rules, (search rules, finds _ _)))
