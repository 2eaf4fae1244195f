use Rattle.std.proofs.Common.{sym, ◌∙◌}
use Rattle.executor.proofs.Shown.{told_there, none_told}
use Rattle.executor.proofs.changes.step_that_applies.Goals as goal

pub returns : goal.returns
returns g c = λ db rising shown.
    c.then_some.ensures
    ∙ told_there c.args.schema.now c.args.change.now c.args.pending.now (g.S.RowStore.contents c.args.store.now) c.args.holders.now db rising shown c.step_seen.result c.in_ok-step.step _
    c.step_seen.ensures (sym c.ok.ensures.value ∙ c.in_ok-step.was) c.stands.ensures

pub returns-in_err-step : goal.returns-in_err-step
returns-in_err-step g c = λ db rising shown.
    c.from_residual.ensures
    ∙ none_told c.args.schema.now c.args.change.now c.args.pending.now (g.S.RowStore.contents c.args.store.now) c.args.holders.now db rising shown c.step_seen.result c.step_seen.ensures
    (sym c.ok.ensures.value ∙ c.in_err-step.was)
