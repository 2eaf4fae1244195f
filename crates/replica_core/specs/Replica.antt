-- What a replica is seen as.
use Rattle.std.specs.Prelude.{ℕ, ◌+◌, ◌-◌, Bool, List, [], ◌∷◌, take, drop, slice_get, Option, option_and_then}
use Rattle.std.specs.Option.{option_map_or, option_map}
use Rattle.schema.specs.declared.Table.{Table}
use Rattle.rows.specs.Database.{Database, effect, writes}
use Rattle.rows.specs.Holders.{holders_in}
use Rattle.store_trait.specs.Batch.{Entry, rows_in}
use Rattle.store_trait.specs.declared.Op.{Op}
use Rattle.store_trait.specs.declared.Op.TheVariants.{Load, Commit}
use Rattle.record_codec.specs.declared.records.Record.{Record}
use Rattle.record_codec.specs.Log.{after}
use Rattle.store_trait.specs.Operation.{loaded}
use Rattle.executor.specs.declared.Job.{Job}
use Rattle.executor.specs.Job.{rows_of}
use Rattle.scheduler.specs.Gnos.{low_of}
use Rattle.gapped.specs.Gapped.{gapped, records_at}

pub record Replica : Type 0 where
  pub tables : List Table
  -- the identifier of the source whose records it takes
  pub source : List ℕ
  -- the rows before the first commit, as the batch that loads them
  pub base : List Entry
  -- the records accepted, in order
  pub accepted : List Record
  -- whether commits are in the order of the log
  pub preserve : Bool
  -- the gnos of the commits, in the order of the commits; of these the first so many are published
  pub commits : List ℕ
  pub published : ℕ
  -- the first so many of the accepted records are dispatched
  pub dispatched : ℕ
  -- of those dispatched: the gnos of which no result was taken, in log order, and those of which one was and that are not committed,
  -- in the order in which the results were taken
  pub out : List ℕ
  pub finished : List ℕ
  -- how many records may be dispatched and not committed
  pub workers : ℕ
  -- the record that could not be applied
  pub stopped : Option ℕ
  -- whether it keeps all accepted records; else those up to the low-water mark may be gone
  pub keeps : Bool

-- the low-water mark: all up to it are committed, and the next is not
abbrev pub low_water : Replica → ℕ
low_water r = low_of r.commits

-- the database after the first n of the accepted records
abbrev pub rows_at : Replica → ℕ → Option Database
rows_at r n = after r.tables (loaded r.base) (take n r.accepted)

-- the working rows: what the committed records leave, one after another in log order
abbrev pub working_rows : Replica → Option Database
working_rows r = gapped r.tables (loaded r.base) r.accepted r.commits

-- the committed records, in the order of their commits
abbrev pub ran : Replica → List Record
ran r = records_at r.accepted r.commits

-- the job of a record over a database: copies of the rows that it looks at, and who has each of its marks there
abbrev pub job_over : List Table → ℕ → Record → Database → Job
job_over ts gno rec rows = record {
  gno = gno;
  rec = rec;
  input = rows_in (rows_of rec) rows;
  holders = holders_in ts rec.marks rows;
  schema = ts;
}

-- the job of the accepted record of this number, counted from 1, over the working rows
abbrev pub job_of : Replica → ℕ → Option Job
job_of r gno =
    option_and_then (λ rec. option_map (job_over r.tables gno rec) (working_rows r)) (slice_get r.accepted (gno - 1))

-- the commits of these records, one after another: each has the record's gno, and the rows that the record writes, as they are after it
abbrev pub commits_from : List Table → Database → List Record → List Op
commits_from ts db [] = []
commits_from ts db (next ∷ records) =
    option_map_or (λ leaves. Commit next.gno (rows_in (writes next.changes) leaves) ∷ commits_from ts leaves records) (effect ts next.changes db) []

-- the operations of the first n of these records: the load of the base, and each commit
abbrev pub operations : List Table → List Entry → List Record → ℕ → List Op
operations ts base records n = Load base ∷ commits_from ts (loaded base) (take n records)

-- the commits that are not published
abbrev pub waiting : Replica → List Op
waiting r = drop r.published (commits_from r.tables (loaded r.base) (ran r))

-- ---- in the order of the log

-- the commits of these records, the first of them numbered gno, and each behind it one more
abbrev pub numbered_from : List Table → Database → ℕ → List Record → List Op
numbered_from ts db gno [] = []
numbered_from ts db gno (next ∷ records) =
    option_map_or (λ leaves. Commit gno (rows_in (writes next.changes) leaves) ∷ numbered_from ts leaves (gno + 1) records) (effect ts next.changes db) []

-- the operations of the first n accepted records in the order of the log: the load of the base, and the commits 1 to n
abbrev pub operations_in_order : List Table → List Entry → List Record → ℕ → List Op
operations_in_order ts base accepted n = Load base ∷ numbered_from ts (loaded base) 1 (take n accepted)
