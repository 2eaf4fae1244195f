use Rattle.std.proofs.Common.{sym, ◌∙◌}
use Rattle.store_trait.proofs.Runs.{not_refused, put_batches-take}
use Rattle.store_trait.proofs.run.Goals as goal

pub loop-put-preserved : goal.loop-put-preserved
loop-put-preserved g c =
    let contents = g.S.RowStore.contents in
    let done = not_refused c.put_all.result (sym c.is_err.ensures.value ∙ c.if-is_err.false) c.put_all.ensures.ok in
    put_batches-take c.args.batches.now c.loop-put.put c.index-batches-put.result (contents c.args.store.now) (contents c.loop-put.store)
    (contents c.put_all.new.self) c.loop-put-test.true c.index-batches-put.is c.loop-put.invariant done
