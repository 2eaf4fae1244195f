use Rattle.std.proofs.Common.{◌≡◌, drop}
use Rattle.rows.specs.Database.{Database}
use Rattle.store_trait.specs.Batch.{put_batch, put_batches}
use Rattle.published.proofs.merge.merged.Given as goal

abbrev pub invariant-loop-batch : goal.invariant-loop-batch
invariant-loop-batch l = (db : Database) → put_batches (drop l.batch-index l.batches) (put_batch l.rows.entries db) ≡ put_batches l.batches db
