use Rattle.std.proofs.Common.{◌∙◌}
use Rattle.commit_stages.proofs.Sessions.{committed_line}
use Rattle.commit_stages.proofs.Sizes.{groups_committed}
use Rattle.commit_stages.proofs.Stages.take_commit.Goals as goal

pub invariant_of-self : goal.invariant_of-self
invariant_of-self c = (
  committed_line _ _ _ _ c.self.invariant.0 _ _ (c.drop.ensures.items ∙ c.drain.ensures.kept) (c.drop.ensures.capacity ∙ c.drain.ensures.capacity),
  groups_committed _ _ _ _ c.self.invariant.1,
)
