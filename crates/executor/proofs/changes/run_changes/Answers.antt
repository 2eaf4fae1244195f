use Rattle.std.proofs.Common.{sym, ap, option_map}
use Rattle.overlay.specs.Pending.{pending_of}
use Rattle.overlay.proofs.Follow.{rising-Follows}
use Rattle.executor.proofs.Shown.{shown_to_one}
use Rattle.executor.proofs.Running.{HasRun-none, HasRun-more, effect-refused, pending-run}
use Rattle.executor.proofs.changes.run_changes.Goals as goal

pub loop-change-init : goal.loop-change-init
loop-change-init g c = λ db shown. rw c.clear.ensures (HasRun-none c.args.schema.now c.args.changes.now db)

pub loop-change-preserved : goal.loop-change-preserved
loop-change-preserved g c = λ db shown.
    let run = c.loop-change.invariant db shown in
    let one = shown_to_one _ _ _ _ db _ c.change-item.result c.loop-change-test.true c.change-item.is shown in
    rw c.in_ok-push.ensures.ok (HasRun-more c.change-item.result run c.loop-change-test.true c.change-item.is c.in-Some.step (c.in-Some.ensures db (rising-Follows run.follows) one))

pub returns : goal.returns
returns g c = λ db shown. pending-run (c.loop-change.invariant db shown) c.loop-change-test.false

pub returns-in_default : goal.returns-in_default
returns-in_default g c = λ db shown.
    let run = c.loop-change.invariant db shown in
    let one = shown_to_one _ _ _ _ db _ c.change-item.result c.loop-change-test.true c.change-item.is shown in
    sym (ap (option_map (pending_of c.args.schema.now c.args.changes.now db))
    (effect-refused c.change-item.result run c.loop-change-test.true c.change-item.is (c.in_default.ensures db (rising-Follows run.follows) one)))
