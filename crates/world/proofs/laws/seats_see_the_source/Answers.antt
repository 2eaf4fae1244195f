use Rattle.world.proofs.LawsSides.{seats_see}
use Rattle.world.proofs.laws.seats_see_the_source.Goals as goal

pub returns : goal.returns
returns c = seats_see
