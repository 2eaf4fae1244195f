use Rattle.std.proofs.Common.{◌≡◌, take}
use Rattle.store_trait.specs.Batch.{put_batches}
use Rattle.store_trait.proofs.run.Given as goal

-- the batches so far are put
abbrev pub invariant-loop-put : goal.invariant-loop-put
invariant-loop-put g l =
    g.S.RowStore.contents l.store ≡ put_batches (take l.put l.batches) (g.S.RowStore.contents l.fn.store)
