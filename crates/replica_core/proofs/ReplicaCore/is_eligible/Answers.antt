use Rattle.std.proofs.Common.{◌∙◌, sym, ap, refl, ℕ, nat_lt, true, false, Some, None}
use Rattle.replica_core.specs.Replica.{Replica}
use Rattle.replica_core.specs.Calls.{is_eligible}
use Rattle.replica_core.specs.Core.{seen_as}
use Rattle.replica_core.proofs.Lists.{found_past}
use Rattle.replica_core.proofs.Steps.{eligible_seen, not_eligible}
use Rattle.replica_core.proofs.ReplicaCore.is_eligible.Goals as goal

pub returns-then-eligible : goal.returns-then-eligible
returns-then-eligible g c =
    let was = c.self.inside in
    let next = c.in-Some.next.now in
    let count = c.dispatched-dispatched.ensures ∙ ap (λ (r : Replica). r.dispatched) (sym c.self.view_is) in
    let got = found_past was.relay.accepted _ _ c.past.result.now (Some next) count c.past.ensures.value c.in-Some.ensures.value in
    eligible_seen c.self.invariant.parts next _ true _ got count (sym c.if-eligible.true ∙ c.eligible.ensures) (ap (λ (n : ℕ). nat_lt n was.workers) c.len.ensures.value)
    ∙ ap is_eligible c.self.view_is

pub returns-else-eligible : goal.returns-else-eligible
returns-else-eligible g c =
    let next = c.in-Some.next.now in
    let count = c.dispatched-dispatched.ensures ∙ ap (λ (r : Replica). r.dispatched) (sym c.self.view_is) in
    let got = found_past c.self.inside.relay.accepted _ _ c.past.result.now (Some next) count c.past.ensures.value c.in-Some.ensures.value in
    c.if-eligible.false ∙ eligible_seen c.self.invariant.parts next _ false _ got count (sym c.if-eligible.false ∙ c.eligible.ensures) refl ∙ ap is_eligible c.self.view_is

pub returns-in-None : goal.returns-in-None
returns-in-None g c =
    let count = c.dispatched-dispatched.ensures ∙ ap (λ (r : Replica). r.dispatched) (sym c.self.view_is) in
    let was : Replica = seen_as c.self.inside.relay c.self.inside.base c.self.inside.scheduler c.self.inside.order.items c.self.inside.published c.self.inside.turns c.self.inside.workers
    c.self.inside.stopped c.self.inside.keeps in
    not_eligible was (found_past was.accepted _ _ c.past.result.now None count c.past.ensures.value c.in-None.ensures.value) ∙ ap is_eligible c.self.view_is
