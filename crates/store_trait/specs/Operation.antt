-- Operations on a store: what is loaded at first, and then what each commit changes.
use Rattle.std.specs.Prelude.{List, map}
use Rattle.std.specs.FinMap.{empty}
use Rattle.rows.specs.Database.{Database}
use Rattle.store_trait.specs.Batch.{Entry, put_batch, put_batches}
use Rattle.store_trait.specs.declared.Op.{Op}
use Rattle.store_trait.specs.declared.Op.TheVariants.{Load, Commit}

-- the rows that an operation sets
abbrev pub batch_of : Op → List Entry
batch_of (Load batch) = batch
batch_of (Commit gno batch) = batch

-- what operations leave of an empty store, in order
abbrev pub left_by : List Op → Database
left_by ops = put_batches (map batch_of ops) empty

-- what the load of a base leaves of an empty store
abbrev pub loaded : List Entry → Database
loaded base = put_batch base empty
