use Rattle.std.proofs.Common.{arith}
use Rattle.commit_stages.proofs.Sessions.{new_line}
use Rattle.commit_stages.proofs.Sizes.{new_groups}
use Rattle.commit_stages.proofs.Stages.new.Goals as goal

pub invariant_of-result : goal.invariant_of-result
invariant_of-result c = (
  new_line _ _ c.in_ok-with_capacity.ensures.items (omega (arith, c.in_ok-with_capacity.ensures.capacity)),
  new_groups _ _ c.in_ok-with_capacity-2.ensures.items (omega (arith, c.in_ok-with_capacity-2.ensures.capacity)),
)
