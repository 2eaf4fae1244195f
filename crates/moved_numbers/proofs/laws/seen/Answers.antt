use Rattle.moved_numbers.proofs.Legally.{rest_is_seen}
use Rattle.moved_numbers.proofs.laws.seen.Goals as goal

pub returns : goal.returns
returns c = rest_is_seen
