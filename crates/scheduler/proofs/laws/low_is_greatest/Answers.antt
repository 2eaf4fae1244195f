use Rattle.scheduler.proofs.Marks.{low_is_greatest}
use Rattle.scheduler.proofs.laws.low_is_greatest.Goals as goal

pub returns : goal.returns
returns c = low_is_greatest
