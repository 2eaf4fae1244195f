use Rattle.overlay.proofs.Joining.{distinct-none}
use Rattle.overlay.proofs.joined.Joined.new.Goals as goal

pub invariant_of-result : goal.invariant_of-result
invariant_of-result c = rw c.new.ensures.items distinct-none
