use Rattle.std.proofs.Common.{sym, ◌∙◌, arith}
use Rattle.source_shared.proofs.Calling.{at_first, then_awake, then_asleep, all_are_called, none_left, none_sleeps_with_end}
use Rattle.source_shared.proofs.engine.Engine.call_due.Goals.{then-sleeps, else-sleeps}
use Rattle.source_shared.proofs.engine.Engine.call_due.Goals as goal

pub loop-place-init : goal.loop-place-init
loop-place-init g c = at_first _ _ _ _ c.asleep-left.ensures.sessions c.asleep-left.ensures.places c.asleep-left.ensures.noted c.nobody-called.ensures c.asleep-left.ensures.count

pub loop-place-preserved : goal.loop-place-preserved
loop-place-preserved g c =
    elim c.if-sleeps.branch [
      | then-sleeps w ↦
          rw (w.self-is, w.called-is, w.lead-is, w.left-is)
          (then_asleep c.asleep-left.ensures.sessions c.loop-place-test.true
          (sym c.sleeps.ensures ∙ w.if-sleeps.true) c.loop-place.invariant _ _ _ w.call_one-lead.ensures.lead w.call_one-lead.ensures.called w.call_one-lead.ensures.left)
      | else-sleeps w ↦
          rw (w.self-is, w.called-is, w.lead-is, w.left-is)
          (then_awake _ _ _ _ _ _ _ c.asleep-left.ensures.sessions c.loop-place-test.true (sym c.sleeps.ensures ∙ w.if-sleeps.false) c.loop-place.invariant)
    ]

pub returns-then-left-eq0-clause-called : goal.returns-then-left-eq0-clause-called
returns-then-left-eq0-clause-called g c = (all_are_called c.args.self.now c.args.leads _ _ _ _ _ _ c.may_lead-lead.ensures c.if-left-eq0.true c.loop-place.invariant).0

pub returns-then-left-eq0-clause-left : goal.returns-then-left-eq0-clause-left
returns-then-left-eq0-clause-left g c = (all_are_called c.args.self.now c.args.leads _ _ _ _ _ _ c.may_lead-lead.ensures c.if-left-eq0.true c.loop-place.invariant).1

pub returns-after-loop-place-clause-called : goal.returns-after-loop-place-clause-called
returns-after-loop-place-clause-called g c =
    let none = none_left _ _ _ _ _ _ _ (omega (arith, c.asleep-left.ensures.sessions, c.loop-place-test.false, c.loop-place.auto.place-end)) c.loop-place.invariant in
    (all_are_called c.args.self.now c.args.leads _ _ _ _ _ _ c.may_lead-lead.ensures none c.loop-place.invariant).0

pub returns-after-loop-place-clause-left : goal.returns-after-loop-place-clause-left
returns-after-loop-place-clause-left g c =
    let none = none_left _ _ _ _ _ _ _ (omega (arith, c.asleep-left.ensures.sessions, c.loop-place-test.false, c.loop-place.auto.place-end)) c.loop-place.invariant in
    (all_are_called c.args.self.now c.args.leads _ _ _ _ _ _ c.may_lead-lead.ensures none c.loop-place.invariant).1

pub returns-then-left-eq0-clause-ended : goal.returns-then-left-eq0-clause-ended
returns-then-left-eq0-clause-ended g c =
    let all = all_are_called c.args.self.now c.args.leads _ _ _ _ _ _ c.may_lead-lead.ensures c.if-left-eq0.true c.loop-place.invariant in
    none_sleeps_with_end c.args.self.now c.args.leads _ _ c.asleep-left.ensures.sessions c.asleep-left.ensures.places all.0 all.1

pub returns-after-loop-place-clause-ended : goal.returns-after-loop-place-clause-ended
returns-after-loop-place-clause-ended g c =
    let none = none_left _ _ _ _ _ _ _ (omega (arith, c.asleep-left.ensures.sessions, c.loop-place-test.false, c.loop-place.auto.place-end)) c.loop-place.invariant in
    let all = all_are_called c.args.self.now c.args.leads _ _ _ _ _ _ c.may_lead-lead.ensures none c.loop-place.invariant in
    none_sleeps_with_end c.args.self.now c.args.leads _ _ c.asleep-left.ensures.sessions c.asleep-left.ensures.places all.0 all.1
