use Rattle.std.proofs.Common.{◌∙◌, ◌+◌, sym, ap, ◌++◌, ◌∷◌, []}
use Rattle.commit_order.specs.Turns.{Line}
use Rattle.replica_core.specs.Core.{commits_seen}
use Rattle.replica_core.specs.Replica.{Replica, job_of}
use Rattle.replica_core.specs.Calls.{is_eligible}
use Rattle.replica_core.proofs.Kept.{holds}
use Rattle.replica_core.proofs.Steps.{dispatched_kept, parts_kept}
use Rattle.replica_core.proofs.ReplicaCore.dispatch.Goals as goal

pub invariant_of-self-2 : goal.invariant_of-self-2
invariant_of-self-2 g c =
    let was = c.self.inside in
    holds (parts_kept was.order.items
    (dispatched_kept c.self.invariant.parts c.in_ok-job.job c.enter.new.self c.push.new.self.items
    (ap is_eligible c.self.view_is ∙ sym c.is_eligible.ensures ∙ c.if-not-is_eligible.false)
    (ap (λ (r : Replica). job_of r (r.dispatched + 1)) c.self.view_is ∙ c.in_ok-job.ensures)
    c.enter.ensures (c.in_ok-push.ensures.items ∙ ap (λ kept. was.handed.items ++ kept ∷ []) c.in_ok-of.ensures))
    (ap (λ (line : Line). commits_seen line.preserve was.scheduler.low was.order.items) c.enter.ensures)) c.self.invariant.kept
