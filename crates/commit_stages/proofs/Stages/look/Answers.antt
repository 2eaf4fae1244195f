use Rattle.std.proofs.Common.{subst}
use Rattle.commit_stages.specs.Queues.{Queues, IsOrderly}
use Rattle.commit_stages.proofs.Sessions.{orderly}
use Rattle.commit_stages.proofs.Stages.look.Goals as goal

pub returns-in-Flush-clause-orderly : goal.returns-in-Flush-clause-orderly
returns-in-Flush-clause-orderly c = subst (λ (q : Queues). IsOrderly q) c.self.view_is (orderly _ _ _ _ _ _ c.self.invariant)

pub returns-in-Sync-clause-orderly : goal.returns-in-Sync-clause-orderly
returns-in-Sync-clause-orderly c = subst (λ (q : Queues). IsOrderly q) c.self.view_is (orderly _ _ _ _ _ _ c.self.invariant)

pub returns-in-Commit-clause-orderly : goal.returns-in-Commit-clause-orderly
returns-in-Commit-clause-orderly c = subst (λ (q : Queues). IsOrderly q) c.self.view_is (orderly _ _ _ _ _ _ c.self.invariant)
