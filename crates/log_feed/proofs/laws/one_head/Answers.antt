use Rattle.log_feed.proofs.Cut.{one_head}
use Rattle.log_feed.proofs.laws.one_head.Goals as goal

pub returns : goal.returns
returns c = one_head
