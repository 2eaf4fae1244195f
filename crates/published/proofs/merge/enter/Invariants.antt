use Rattle.std.proofs.Common.{◌≡◌, drop}
use Rattle.rows.specs.Database.{Database}
use Rattle.store_trait.specs.Batch.{put_batch}
use Rattle.published.proofs.merge.enter.Given as goal

abbrev pub invariant-loop-id : goal.invariant-loop-id
invariant-loop-id l = (db : Database) → put_batch (drop l.id-index l.entries) (put_batch l.rows.entries db) ≡ put_batch l.entries (put_batch l.initial.rows.entries db)
