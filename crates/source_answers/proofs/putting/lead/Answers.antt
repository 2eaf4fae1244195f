use Rattle.std.proofs.Common.{◌∙◌, ap, zero, [], ◌∷◌, replicate, Some, None}
use Rattle.std.specs.Result.{result_err}
use Rattle.std.proofs.lemmas.Result.{err_from_is_err_and}
use Rattle.world.specs.declared.events.Event.TheVariants as events
use Rattle.source_answers.proofs.Steps.{one_step, then_more, then_none}
use Rattle.source_answers.proofs.putting.lead.Goals as goal

pub returns-in_err-go_on-clause-walks : goal.returns-in_err-go_on-clause-walks
returns-in_err-go_on-clause-walks g c =
    let p = err_from_is_err_and c.from_residual.result c.from_residual.ensures.1 in
    let told = ap result_err p.1 ∙ ap Some p.2 in (
      zero,
      then_none (events.Prepare c.args.session ∷ []) (events.Queue c.args.session ∷ events.Flush ∷ []) c.args.source.now _ _ c.prepare.new.source told
          (one_step c.args.source.now c.prepare.new.source (events.Prepare c.args.session) _ _ c.prepare.ensures (told ∙ c.in_err-go_on.ensures)),
    )

pub returns-in_err-go_on-2-clause-walks : goal.returns-in_err-go_on-2-clause-walks
returns-in_err-go_on-2-clause-walks g c =
    let p = err_from_is_err_and c.from_residual-in_err-go_on-2.result c.from_residual-in_err-go_on-2.ensures.1 in
    let told = ap result_err p.1 ∙ ap Some p.2 in
    let first = one_step c.args.source.now c.prepare.new.source (events.Prepare c.args.session) _ None c.prepare.ensures c.in_ok-go_on.ensures in (
      zero,
      then_more (events.Prepare c.args.session ∷ []) (events.Queue c.args.session ∷ events.Flush ∷ []) c.args.source.now c.prepare.new.source _ c.queue.new.source first
          (then_none (events.Queue c.args.session ∷ []) (events.Flush ∷ []) c.prepare.new.source _ _ c.queue.new.source told
          (one_step c.prepare.new.source c.queue.new.source (events.Queue c.args.session) _ _ c.queue.ensures (told ∙ c.in_err-go_on-2.ensures))),
    )

pub returns-in_err-go_on-3-clause-walks : goal.returns-in_err-go_on-3-clause-walks
returns-in_err-go_on-3-clause-walks g c =
    let p = err_from_is_err_and c.from_residual-in_err-go_on-3.result c.from_residual-in_err-go_on-3.ensures.1 in
    let told = ap result_err p.1 ∙ ap Some p.2 in
    let first = one_step c.args.source.now c.prepare.new.source (events.Prepare c.args.session) _ None c.prepare.ensures c.in_ok-go_on.ensures in
    let second = one_step c.prepare.new.source c.queue.new.source (events.Queue c.args.session) _ None c.queue.ensures c.in_ok-go_on-2.ensures in (
      zero,
      then_more (events.Prepare c.args.session ∷ []) (events.Queue c.args.session ∷ events.Flush ∷ []) c.args.source.now c.prepare.new.source _ c.flush.new.source first
          (then_more (events.Queue c.args.session ∷ []) (events.Flush ∷ []) c.prepare.new.source c.queue.new.source _ c.flush.new.source second
          (one_step c.queue.new.source c.flush.new.source events.Flush _ _ c.flush.ensures (told ∙ c.in_err-go_on-3.ensures))),
    )

pub returns-clause-walks : goal.returns-clause-walks
returns-clause-walks g c =
    let w = c.sync_all.ensures.walks in
    let syncs = replicate w.0 events.Sync in
    let told = result_err c.sync_all.result in
    let first = one_step c.args.source.now c.prepare.new.source (events.Prepare c.args.session) _ None c.prepare.ensures c.in_ok-go_on.ensures in
    let second = one_step c.prepare.new.source c.queue.new.source (events.Queue c.args.session) _ None c.queue.ensures c.in_ok-go_on-2.ensures in
    let third = one_step c.queue.new.source c.flush.new.source events.Flush _ None c.flush.ensures c.in_ok-go_on-3.ensures in (
      w.0,
      then_more (events.Prepare c.args.session ∷ []) (events.Queue c.args.session ∷ events.Flush ∷ syncs) c.args.source.now c.prepare.new.source told c.sync_all.new.source first
          (then_more (events.Queue c.args.session ∷ []) (events.Flush ∷ syncs) c.prepare.new.source c.queue.new.source told c.sync_all.new.source second
          (then_more (events.Flush ∷ []) syncs c.queue.new.source c.flush.new.source told c.sync_all.new.source third w.1)),
    )
