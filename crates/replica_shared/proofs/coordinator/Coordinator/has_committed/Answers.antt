use Rattle.std.proofs.Common.{◌≡◌, ◌∙◌, sym, subst, true, false, nat_lt, arith}
use Rattle.std.proofs.lemmas.Bool.{lt-ltb}
use Rattle.scheduler.specs.Gnos.{has_gno}
use Rattle.replica_shared.specs.Awaited.{has_each}
use Rattle.replica_shared.specs.Together.{State}
use Rattle.replica_shared.proofs.Awaiting.{each_not, in_front, each_from, walked}
use Rattle.replica_shared.proofs.coordinator.Coordinator.has_committed.Goals as goal

pub returns-then-not-has_committed : goal.returns-then-not-has_committed
returns-then-not-has_committed g c =
    let low = c.loop-gno.auto.gno in
    let high = c.loop-gno-test.true in
    subst (λ (s : State). false ≡ has_each s.core.commits c.args.interval) c.self.view_is
    (sym
    (each_not c.self.inside.core.commits c.args.interval c.loop-gno.gno (omega (arith, c.max-from.ensures, low)) (omega (arith, high))
    (sym c.has_committed.ensures ∙ c.if-not-has_committed.true)))

pub returns-then-interval-from : goal.returns-then-interval-from
returns-then-interval-from g c =
    let commits = c.self.inside.core.commits in
    let i = c.args.interval in
    let from = c.max-from.result in
    let less = c.if-interval-from.true in
    let all : has_each commits i ≡ true =
    each_from commits i from (in_front commits i.first c.low_water.result from c.requires c.low_water.ensures.value c.max-from.ensures) (λ gno low high. absurd (omega (arith, less))) in
    subst (λ (s : State). nat_lt i.last from ≡ has_each s.core.commits i) c.self.view_is (lt-ltb i.last from less ∙ sym all)

pub returns-else-interval-from : goal.returns-else-interval-from
returns-else-interval-from g c =
    let commits = c.self.inside.core.commits in
    let i = c.args.interval in
    let from = c.max-from.result in
    let last = c.has_committed-else-interval-from.result in
    let above = c.if-interval-from.false in
    let end = c.loop-gno-test.false in
    subst (λ (s : State). last ≡ has_each s.core.commits i) c.self.view_is
    (walked commits i from last (in_front commits i.first c.low_water.result from c.requires c.low_water.ensures.value c.max-from.ensures)
    (λ gno low high. subst (λ (s : State). has_gno s.core.commits gno ≡ true) (sym c.self.view_is) (c.loop-gno.invariant gno low (omega (arith, end)))) (omega (arith, c.max-from.ensures, above))
    c.has_committed-else-interval-from.ensures)
