use Rattle.log_feed.proofs.Cut.{cut_anywhere}
use Rattle.log_feed.proofs.laws.feed_is_cut_anywhere.Goals as goal

pub returns : goal.returns
returns c = cut_anywhere
