-- What follows from the definitions of the commits, the operations and the jobs.
use Rattle.std.specs.Prelude.{◌≡◌, ℕ, ◌+◌, ◌-◌, ◌<◌, ◌≤◌, true, List, [], ◌∷◌, ◌++◌, length, take, slice_get, Some, IsSome}
use Rattle.schema.specs.declared.Table.{Table}
use Rattle.rows.specs.Database.{Database, effect, writes}
use Rattle.store_trait.specs.Batch.{Entry, rows_in}
use Rattle.store_trait.specs.Operation.{left_by, loaded}
use Rattle.store_trait.specs.declared.Op.TheVariants.{Commit}
use Rattle.record_codec.specs.declared.records.Record.{Record}
use Rattle.record_codec.specs.Log.{after, IsLegalLog}
use Rattle.executor.specs.declared.Job.{Job}
use Rattle.executor.specs.Job.{Agrees}
use Rattle.executor.specs.Laws.{IsGood}
use Rattle.replica_core.specs.Replica.{Replica, commits_from, operations, rows_at, working_rows, job_of}
use Rattle.replica_core.specs.Sound.{IsSound, IsUnderWay, StateMarksUpTo, ShowsGapped}
use Rattle.replica_core.specs.Calls.{with_accepted, dispatched_next, with_finished, stopped_at, with_commit, with_published}

-- one more record that applies is one more commit, at the end
abbrev pub OneCommitMore : Type 0
OneCommitMore = (ts : List Table) (db : Database) (records : List Record) (next : Record) (mid leaves : Database) → after ts db records ≡ Some mid → effect ts next.changes mid ≡ Some leaves →
    commits_from ts db (records ++ next ∷ []) ≡ commits_from ts db records ++ Commit next.gno (rows_in (writes next.changes) leaves) ∷ []

-- records that apply have a commit each
abbrev pub OneCommitEach : Type 0
OneCommitEach = (ts : List Table) (db : Database) (records : List Record) (left : Database) → after ts db records ≡ Some left → length (commits_from ts db records) ≡ length records

-- the first of the commits are those of the first records
abbrev pub FirstCommits : Type 0
FirstCommits = (ts : List Table) (db : Database) (n : ℕ) (records : List Record) → take n (commits_from ts db records) ≡ commits_from ts db (take n records)

-- the operations of records that apply, put in order into an empty store, leave what the records leave of the base
abbrev pub OperationsLeaveRows : Type 0
OperationsLeaveRows = (ts : List Table) (base : List Entry) (records : List Record) (n : ℕ) (left : Database) →
    after ts (loaded base) (take n records) ≡ Some left → left_by (operations ts base records n) ≡ left

-- what the first so many commits leave is a gapped state of the accepted list, whatever was received
abbrev pub PublishedIsGapped : Type 0
PublishedIsGapped = (r : Replica) (n : ℕ) → IsSound r → n ≤ length r.commits → ShowsGapped r n

-- the job of a record: its number, the record, copies of the rows that it looks at, who has its marks, and the tables
pub record IsJobOf (r : Replica) (number : ℕ) (job : Job) : Type 0 where
  pub gno : job.gno ≡ number
  pub rec : slice_get r.accepted (number - 1) ≡ Some job.rec
  pub schema : job.schema ≡ r.tables

abbrev pub JobIsOfItsRecord : Type 0
JobIsOfItsRecord = (r : Replica) (gno : ℕ) (job : Job) → job_of r gno ≡ Some job → IsJobOf r gno job

-- each accepted record has one
abbrev pub EachHasJob : Type 0
EachHasJob = (r : Replica) (gno : ℕ) → IsSound r → 1 ≤ gno → gno ≤ length r.accepted → IsSome (job_of r gno)

-- that of a record under way may be of the working rows
abbrev pub JobAgreesNow : Type 0
JobAgreesNow = (r : Replica) (gno : ℕ) (job : Job) (rows : Database) → IsSound r → IsUnderWay r gno → job_of r gno ≡ Some job → working_rows r ≡ Some rows → Agrees job rows

-- In the order of the log it may be of each database that the accepted records lead to from the committed one up to its own place,
-- where those that lead there state their true marks.
abbrev pub JobAgrees : Type 0
JobAgrees = (r : Replica) (gno n : ℕ) (job : Job) (db : Database) → IsSound r → r.preserve ≡ true → IsUnderWay r gno → length r.commits ≤ n → n < gno →
    job_of r gno ≡ Some job → rows_at r n ≡ Some db → StateMarksUpTo r n → Agrees job db

-- those of a legal log do
abbrev pub LegalStatesUpTo : Type 0
LegalStatesUpTo = (r : Replica) (n : ℕ) → IsLegalLog r.tables (loaded r.base) r.accepted → length r.commits ≤ n → StateMarksUpTo r n

-- the commit of another record under way, which is good over the working rows, leaves the job of a record that is dispatched
abbrev pub JobStays : Type 0
JobStays = (r : Replica) (gno other : ℕ) (rec : Record) (rows : Database) → IsSound r → IsUnderWay r gno → IsUnderWay r other → (gno ≡ other → ⊥) →
    slice_get r.accepted (other - 1) ≡ Some rec → working_rows r ≡ Some rows → IsGood r.tables rec rows → job_of (with_commit r other) gno ≡ job_of r gno

-- in the order of the log so does that of the next, where the record applies and states its true marks
abbrev pub JobStaysInOrder : Type 0
JobStaysInOrder = (r : Replica) (gno : ℕ) (leaves : Database) → IsSound r → r.preserve ≡ true → IsUnderWay r gno → length r.commits + 1 < gno →
    rows_at r (length r.commits + 1) ≡ Some leaves → StateMarksUpTo r (length r.commits + 1) → job_of (with_commit r (length r.commits + 1)) gno ≡ job_of r gno

-- and one more record accepted, of the next number, leaves the job of each accepted before
abbrev pub JobStaysBehind : Type 0
JobStaysBehind = (r : Replica) (gno : ℕ) (new : Record) → IsSound r → new.gno ≡ length r.accepted + 1 → 1 ≤ gno → gno ≤ length r.accepted → job_of (with_accepted r new) gno ≡ job_of r gno

-- what is dispatched, taken and published changes no job
pub record LeaveJobs (r : Replica) (gno : ℕ) : Type 0 where
  pub dispatched : job_of (dispatched_next r) gno ≡ job_of r gno
  pub finished : (other : ℕ) → job_of (with_finished r other) gno ≡ job_of r gno
  pub published : (upto : ℕ) → job_of (with_published r upto) gno ≡ job_of r gno
  pub stopped : (at : ℕ) → job_of (stopped_at r at) gno ≡ job_of r gno

abbrev pub OthersLeaveJobs : Type 0
OthersLeaveJobs = (r : Replica) (gno : ℕ) → LeaveJobs r gno
