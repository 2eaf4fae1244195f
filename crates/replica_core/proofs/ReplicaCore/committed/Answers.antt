use Rattle.std.proofs.Common.{◌∙◌, sym, ap, length, Bool}
use Rattle.scheduler.proofs.Gnos.{length-first_gnos}
use Rattle.replica_core.specs.Replica.{Replica}
use Rattle.replica_core.specs.Core.{commits_seen}
use Rattle.replica_core.proofs.ReplicaCore.committed.Goals as goal

pub returns-then-preserve-clause-value : goal.returns-then-preserve-clause-value
returns-then-preserve-clause-value g c =
    let was = c.self.inside in
    c.low_water.ensures.value ∙ sym (length-first_gnos was.scheduler.low)
    ∙ ap (λ (b : Bool). length (commits_seen b was.scheduler.low was.order.items)) (sym c.if-preserve.true ∙ c.preserve.ensures)
    ∙ ap (λ (r : Replica). length r.commits) c.self.view_is
