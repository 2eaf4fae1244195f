use Rattle.std.proofs.Common.{◌∙◌, ◌<◌, sym, ap, subst, length, ℕ, List, arith}
use Rattle.scheduler.specs.Gnos.{first_gnos}
use Rattle.gtid_set.specs.Ids.{Ids, first_ids}
use Rattle.replica_core.specs.Replica.{Replica}
use Rattle.replica_core.specs.Calls.{AreExecuted}
use Rattle.replica_core.specs.Core.{AreMarked}
use Rattle.replica_core.proofs.Marked.{executed_is, executed_in_order, some_commit}
use Rattle.replica_core.proofs.Steps.{few_accepted}
use Rattle.replica_core.proofs.ReplicaCore.executed.Goals as goal

pub first-requires : goal.first-requires
first-requires g c =
    let sound = c.committed.ensures.sound in
    omega (arith, few_accepted _ _ sound.accepted, sound.dispatched, sound.counted, c.committed.ensures.value)

pub returns-then-preserve-clause-ok : goal.returns-then-preserve-clause-ok
returns-then-preserve-clause-ok g c =
    let sound = c.committed.ensures.sound in
    let count = c.committed.ensures.value in
    let preserve = ap (λ (r : Replica). r.preserve) (sym c.self.view_is) ∙ sym c.preserve.ensures ∙ c.if-preserve.true in
    let source = c.source-source.ensures in
    subst (λ (ids : Ids). AreExecuted c.args.self.now ids) (sym (c.in_ok-first.ensures.value ∙ ap (λ (s : List ℕ). first_ids s c.committed.result) source))
    (executed_in_order c.args.self.now c.committed.result ((sound.in_order preserve).commits ∙ ap first_gnos (sym count)) (sym count)
    (omega (arith, few_accepted _ _ sound.accepted, sound.dispatched, sound.counted, count)))

pub returns-in_err-committed_ids-clause-memory : goal.returns-in_err-committed_ids-clause-memory
returns-in_err-committed_ids-clause-memory g c = λ _. (
  sym (ap (λ (r : Replica). r.stopped) c.self.view_is) ∙ c.in_ok-refuse_stopped.ensures.runs,
  subst (λ (r : Replica). 0 < length r.commits) c.self.view_is (some_commit _ _ c.self.invariant.parts.counted.marked c.in_err-committed_ids.ensures.memory),
)

pub returns-clause-ok : goal.returns-clause-ok
returns-clause-ok g c =
    let count = c.dispatched.ensures ∙ ap (λ (r : Replica). r.dispatched) (sym c.self.view_is) in
    let source = c.source-source.ensures ∙ ap (λ (r : Replica). r.source) (sym c.self.view_is) in
    subst (λ (r : Replica). AreExecuted r c.in_ok-committed_ids.field-0) c.self.view_is
    (executed_is _ c.self.inside.scheduler c.in_ok-committed_ids.field-0 c.self.invariant.parts.counted
    (subst (λ (p : List ℕ × ℕ). AreMarked p.0 c.self.inside.scheduler p.1 c.in_ok-committed_ids.field-0) (λ i. (source i, count i)) c.in_ok-committed_ids.ensures.ok))
