use Rattle.log_index.proofs.Places.{length_covers}
use Rattle.log_index.proofs.laws.next_entry.Goals as goal

pub returns : goal.returns
returns c = length_covers
