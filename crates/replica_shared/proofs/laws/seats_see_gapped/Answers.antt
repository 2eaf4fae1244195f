use Rattle.replica_shared.proofs.Seeing.{seats_see_gapped}
use Rattle.replica_shared.proofs.laws.seats_see_gapped.Goals as goal

pub returns : goal.returns
returns c = seats_see_gapped c.gapped.ensures.published
