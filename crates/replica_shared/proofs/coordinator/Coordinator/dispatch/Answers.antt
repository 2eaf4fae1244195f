use Rattle.std.proofs.Common.{◌≡◌, ◌∙◌, ap, subst, false, None, Ok, Option, is_some, if◌then◌else◌, rules}
use Rattle.executor.specs.declared.Job.{Job}
use Rattle.replica_core.specs.Calls.{is_eligible, dispatched_next}
use Rattle.replica_shared.specs.Together.{State}
use Rattle.replica_shared.proofs.Whole.{whole_dispatched}
use Rattle.replica_shared.proofs.coordinator.Coordinator.dispatch.Goals as goal

pub invariant_of-self-in-Some : goal.invariant_of-self-in-Some
invariant_of-self-in-Some g c = whole_dispatched c.self.invariant (search rules) (search rules) (search rules) (search rules)

pub returns-in-None-clause-none : goal.returns-in-None-clause-none
returns-in-None-clause-none g c = λ _.
    let was = c.self.inside.core in
    let none : c.in_ok-job.field-0 ≡ None = c.in-None.is in
    let left : c.dispatch.new.self ≡ was = c.in_ok-job.ensures.ok ∙ ap (λ (o : Option Job). if is_some o then dispatched_next was else was) none in (
      subst (λ (s : State). is_eligible s.core ≡ false) c.self.view_is (c.in_ok-job.ensures.none (ap Ok none)),
      rw left c.self.view_is,
    )
