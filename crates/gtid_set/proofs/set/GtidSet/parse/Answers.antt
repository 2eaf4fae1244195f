use Rattle.gtid_set.proofs.Sets.{found, only}
use Rattle.gtid_set.proofs.set.GtidSet.parse.Goals as goal

pub returns-clause-found : goal.returns-clause-found
returns-clause-found c = found c.args.text.now c.read.result c.read.ensures.exact

pub returns-clause-only : goal.returns-clause-only
returns-clause-only c = λ listed lists. only c.args.text.now c.read.result listed c.read.ensures.exact lists
