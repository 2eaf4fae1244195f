-- Jobs and what comes of them.
use Rattle.std.specs.Prelude.{◌≡◌, ◌⊎◌, ◌++◌, true, ◌&&◌, if◌then◌else◌, List, Option, Some, None}
use Rattle.std.specs.Option.{option_map_or}
use Rattle.schema.specs.declared.Table.{Table}
use Rattle.schema.specs.declared.RowId.{RowId}
use Rattle.schema.specs.Rows.{Mark, has_row}
use Rattle.rows.specs.Database.{Database, effect, writes, kin, marks, NoValueTwice}
use Rattle.rows.specs.Frame.{AgreeOn}
use Rattle.rows.specs.Given.{given_parents, given_marks}
use Rattle.rows.specs.Holders.{holder_of}
use Rattle.store_trait.specs.Batch.{Entry, rows_in}
use Rattle.store_trait.specs.Operation.{loaded}
pub use Rattle.overlay.specs.Pending.{same_rows}
use Rattle.record_codec.specs.declared.records.Record.{Record}
use Rattle.executor.specs.Held.{held}
use Rattle.executor.specs.declared.Job.{Job}
use Rattle.executor.specs.declared.Outcome.{Outcome}
use Rattle.executor.specs.declared.Outcome.TheVariants.{Output, Undefined, WrongRefs, Memory}

-- the rows that are handed out with a record: those that it writes and those that it states as its refs
abbrev pub rows_of : Record → List RowId
rows_of rec = writes rec.changes ++ rec.refs

-- What comes of a record whose changes have these kin and marks, and leave these rows of those that they write: the rows, or that
-- the record's refs or its marks are not exactly these.
abbrev pub outcome_of : Record → List RowId → List Mark → List Entry → Outcome
outcome_of rec looks_at takes left = if same_rows rec.refs looks_at && same_rows rec.marks takes then Output left else WrongRefs

-- What comes of a record over a database: the rows that it writes, as its changes leave them; or that one of the changes does
-- not apply there; or that they apply, and the record's refs are not exactly the parent rows, before and after each change, of
-- the changed child rows, or its marks are not exactly the old and the new values, in unique columns, of the changed rows.
abbrev pub outcome_over : List Table → Record → Database → Outcome
outcome_over ts rec db =
    option_map_or (λ leaves. outcome_of rec (kin ts rec.changes db) (marks ts rec.changes db) (rows_in (writes rec.changes) leaves)) (effect ts rec.changes db) Undefined

-- A database that a job may be of: no two rows of a table have one value in its unique column, and the rows and the holders of
-- the job, with the parents and the values that the changes give, are as they are there.
pub record Agrees (job : Job) (db : Database) : Type 0 where
  pub apart : NoValueTwice job.schema db
  pub rows : AgreeOn (rows_of job.rec ++ given_parents job.schema job.rec.changes) (loaded job.input) db
  pub holders : (mark : Mark) → has_row (job.rec.marks ++ given_marks job.schema job.rec.changes) mark ≡ true → holder_of job.schema db mark ≡ held job.holders mark

-- the rows of an outcome, where it has any
abbrev pub output_of : Outcome → Option (List Entry)
output_of (Output rows) = Some rows
output_of Undefined = None
output_of WrongRefs = None
output_of Memory = None

-- a job with what came of it
pub record Finished : Type 0 where
  pub job : Job
  pub outcome : Outcome

-- Memory lacked, or this comes of the job's record over each database that the job may be of.
abbrev pub IsResult : Finished → Type 0
IsResult result =
    (result.outcome ≡ Memory) ⊎ ((db : Database) → Agrees result.job db → result.outcome ≡ outcome_over result.job.schema result.job.rec db)
