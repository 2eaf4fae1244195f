use Rattle.promotion.proofs.Joined.{joined_is_legal, joined_leaves}
use Rattle.promotion.proofs.laws.joined.Goals as goal

pub returns : goal.returns
returns c = record { legal = joined_is_legal; leaves = joined_leaves }
