use Rattle.schema.proofs.RowFlags.{flags_more}
use Rattle.schema.proofs.laws.flags.Goals as goal

pub returns : goal.returns
returns c = flags_more
