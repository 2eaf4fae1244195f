use Rattle.std.proofs.Common.{◌≡◌, ◌∙◌, sym, ap, subst, refl, ◌+◌, IfOk, Some, arith}
use Rattle.std.proofs.lemmas.Option.{slice_get_read}
use Rattle.executor.specs.declared.Job.{Job}
use Rattle.replica_core.specs.Replica.{Replica, job_of}
use Rattle.replica_core.specs.Calls.{is_eligible}
use Rattle.replica_core.proofs.Lists.{found_past, within_past}
use Rattle.replica_core.proofs.Steps.{eligible_within, made_of_next}
use Rattle.replica_core.proofs.ReplicaCore.next_job.Goals as goal

pub returns : goal.returns
returns g c =
    let was = c.self.inside in
    let count = c.dispatched-dispatched.ensures ∙ ap (λ (r : Replica). r.dispatched) (sym c.self.view_is) in
    let all = eligible_within c.self.invariant.parts (ap is_eligible c.self.view_is ∙ c.requires) in
    let within = within_past was.relay.accepted c.dispatched-dispatched.result c.past.result.now (omega arith) c.past.ensures.value in
    let first = slice_get_read c.past.result.now _ 0 c.index-past-0.result refl within c.index-past-0.is in
    let got = found_past was.relay.accepted _ _ c.past.result.now (Some c.index-past-0.result) count c.past.ensures.value (sym first) in
    subst (λ (r : Replica). IfOk c.job_over.result (λ (job : Job). job_of r (r.dispatched + 1) ≡ Some job)) c.self.view_is
    (made_of_next c.self.invariant.parts c.job_over.result _ c.index-past-0.result c.schema.result.now count got c.schema.ensures c.job_over.ensures)
