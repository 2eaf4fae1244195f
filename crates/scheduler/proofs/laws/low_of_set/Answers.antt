use Rattle.scheduler.proofs.Gnos.{low_is_low, one_low, has_first, low_of_first, low_rises, low_is_few}
use Rattle.scheduler.proofs.laws.low_of_set.Goals as goal

pub returns : goal.returns
returns c = record {
  low = low_is_low;
  one = one_low;
  has_first = has_first;
  first = low_of_first;
  rises = low_rises;
  few = low_is_few;
}
