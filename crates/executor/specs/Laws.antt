-- What comes of a job is what its record does to each database that the job may be of.
use Rattle.std.specs.Prelude.{◌≡◌, ◌↔◌, ◌⊎◌, ℕ, true, List, Some, None}
use Rattle.schema.specs.declared.Table.{Table}
use Rattle.schema.specs.declared.RowId.{RowId}
use Rattle.schema.specs.Rows.{Mark, has_row, SameRows}
use Rattle.schema.specs.Schema.{unique_of}
use Rattle.rows.specs.Database.{Database, effect, writes, kin, marks, NoValueTwice}
use Rattle.rows.specs.Frame.{AgreeOn, SameEffect}
use Rattle.rows.specs.Given.{StatesGiven}
use Rattle.rows.specs.Holders.{holder_of, holders_in}
use Rattle.store_trait.specs.Batch.{Entry, rows_in}
use Rattle.store_trait.specs.Operation.{loaded}
use Rattle.record_codec.specs.Record.{AreRefs}
use Rattle.record_codec.specs.declared.records.Record.{Record}
use Rattle.executor.specs.Held.{AreHolders, held}
use Rattle.executor.specs.declared.Job.{Job}
use Rattle.executor.specs.declared.Outcome.TheVariants.{Output, Undefined, WrongRefs, Memory}
use Rattle.executor.specs.Job.{rows_of, same_rows, outcome_over, Agrees, Finished, IsResult}

-- ---- what is handed out

-- the copies of some rows of a database load these rows as they are there
abbrev pub InputIsRows : Type 0
InputIsRows = (rows : List RowId) (db : Database) → AgreeOn rows (loaded (rows_in rows db)) db

-- two databases that have the same at some rows give the same copies of them
abbrev pub SameRowsIn : Type 0
SameRowsIn = (rows : List RowId) (a b : Database) → AgreeOn rows a b → rows_in rows a ≡ rows_in rows b

-- the holders of a record's marks rise as these do
abbrev pub HoldersRise : Type 0
HoldersRise = (ts : List Table) (stated : List Mark) (db : Database) → AreRefs stated → AreHolders (holders_in ts stated db)

-- of these the holder of each mark is the one that it has in the database
abbrev pub HoldersAreHeld : Type 0
HoldersAreHeld = (ts : List Table) (stated : List Mark) (db : Database) (mark : Mark) →
    has_row stated mark ≡ true → held (holders_in ts stated db) mark ≡ holder_of ts db mark

-- two databases look alike to a record: they have the same at the rows that it writes and refers to, and its marks have the same
-- holders there
pub record LooksAlike (ts : List Table) (rec : Record) (a b : Database) : Type 0 where
  pub rows : AgreeOn (rows_of rec) a b
  pub holders : (mark : Mark) → has_row rec.marks mark ≡ true → holder_of ts a mark ≡ holder_of ts b mark

-- so the same is handed out with the record of both: the same rows, and the same holders
pub record SameHanded (ts : List Table) (rec : Record) (a b : Database) : Type 0 where
  pub input : rows_in (rows_of rec) a ≡ rows_in (rows_of rec) b
  pub holders : holders_in ts rec.marks a ≡ holders_in ts rec.marks b

abbrev pub SameHandedOver : Type 0
SameHandedOver = (ts : List Table) (rec : Record) (a b : Database) → LooksAlike ts rec a b → SameHanded ts rec a b

-- A job may be of the database that its rows and holders are of, where its record states the parents and the values that its
-- changes give.
abbrev pub HandedAgrees : Type 0
HandedAgrees = (job : Job) (db : Database) →
    StatesGiven job.schema job.rec.changes job.rec.refs job.rec.marks → NoValueTwice job.schema db →
    job.input ≡ rows_in (rows_of job.rec) db → job.holders ≡ holders_in job.schema job.rec.marks db → Agrees job db

-- over tables without a unique column each job that has no holder may be of its own input
abbrev pub AgreesWithoutUnique : Type 0
AgreesWithoutUnique = (job : Job) → ((table : ℕ) → unique_of job.schema table ≡ None) →
    ((mark : Mark) → held job.holders mark ≡ None) → Agrees job (loaded job.input)

-- ---- records that are good over a database

-- two lists pass the test of sets exactly where they are one set of rows
abbrev pub TellsSets : Type 0
TellsSets = (xs ys : List RowId) → (same_rows xs ys ≡ true) ↔ SameRows xs ys

-- A record is good over a database: its changes apply there, its refs are exactly the parent rows that they look at, and its marks
-- exactly the values in unique columns that they take and give up.
pub record IsGood (ts : List Table) (rec : Record) (db : Database) : Type 0 where
  pub leaves : Database
  pub applies : effect ts rec.changes db ≡ Some leaves
  pub refs : SameRows rec.refs (kin ts rec.changes db)
  pub marks : SameRows rec.marks (marks ts rec.changes db)

-- A record that is good over a database does the same to each that looks alike to it: it leaves the rows that it writes alike,
-- looks at the same parent rows, and has the same marks. So it is good there too.
abbrev pub GoodDoesTheSame : Type 0
GoodDoesTheSame = (ts : List Table) (rec : Record) (db other : Database) → NoValueTwice ts db → NoValueTwice ts other →
    (good : IsGood ts rec db) → LooksAlike ts rec db other → SameEffect ts rec.changes db good.leaves other

abbrev pub GoodElsewhere : Type 0
GoodElsewhere = (ts : List Table) (rec : Record) (db other : Database) → NoValueTwice ts db → NoValueTwice ts other →
    IsGood ts rec db → LooksAlike ts rec db other → IsGood ts rec other

-- what comes of a record over a database is an output exactly where the record is good there
abbrev pub OutputIsGood : Type 0
OutputIsGood = (ts : List Table) (rec : Record) (db : Database) → ((left : List Entry) × (outcome_over ts rec db ≡ Output left)) ↔ IsGood ts rec db

-- a record that is good over a database leaves this of it at the rows that it writes
pub record LeavesThere (ts : List Table) (rec : Record) (db : Database) (left : List Entry) : Type 0 where
  pub after_ : Database
  pub applies : effect ts rec.changes db ≡ Some after_
  pub refs : SameRows rec.refs (kin ts rec.changes db)
  pub marks : SameRows rec.marks (marks ts rec.changes db)
  pub rows : left ≡ rows_in (writes rec.changes) after_

-- ---- results

-- a job's output is what its record leaves of each database that the job may be of, and the record is good there
abbrev pub OutputIsThere : Type 0
OutputIsThere = (result : Finished) (db : Database) (left : List Entry) → IsResult result → Agrees result.job db →
    result.outcome ≡ Output left → LeavesThere result.job.schema result.job.rec db left

-- where a job's record is good over such a database, it has an output, unless memory lacked
abbrev pub GoodHasOutput : Type 0
GoodHasOutput = (result : Finished) (db : Database) → IsResult result → Agrees result.job db →
    IsGood result.job.schema result.job.rec db → (result.outcome ≡ Memory) ⊎ ((left : List Entry) × (result.outcome ≡ Output left))

-- so each of the two faults is of a record that is not good over that database
abbrev pub FaultIsThere : Type 0
FaultIsThere = (result : Finished) (db : Database) → IsResult result → Agrees result.job db →
    (result.outcome ≡ Undefined) ⊎ (result.outcome ≡ WrongRefs) → ¬ IsGood result.job.schema result.job.rec db
