use Rattle.std.proofs.Common.{rules}
use Rattle.published.proofs.Words.{begins}
use Rattle.published.proofs.status.Status.new.Goals as goal

pub ruled-requires : goal.ruled-requires
ruled-requires c = (search rules, (search rules, begins))
