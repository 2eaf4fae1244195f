-- What holds of every replica, whatever was received.
use Rattle.std.specs.Prelude.{◌≡◌, ℕ, ◌+◌, ◌-◌, ◌<◌, ◌≤◌, ◌&&◌, nat_le, true, false, ◌++◌, length, take, drop, slice_get, Some}
use Rattle.rows.specs.Database.{Database, NoValueTwice}
use Rattle.rows.specs.Holders.{holders_in}
use Rattle.store_trait.specs.Batch.{rows_in}
use Rattle.store_trait.specs.Operation.{loaded, left_by}
use Rattle.record_codec.specs.declared.records.Record.{Record}
use Rattle.record_codec.specs.Log.{StateMarks}
use Rattle.executor.specs.declared.Job.{Job}
use Rattle.executor.specs.Job.{rows_of}
use Rattle.relay.specs.Relay.{AreAcceptable}
use Rattle.scheduler.specs.Gnos.{has_gno, first_gnos, AreDistinct}
use Rattle.gapped.specs.Gapped.{gapped, IsClosed, AreCommits}
use Rattle.replica_core.specs.Replica.{Replica, low_water, rows_at, working_rows, ran, job_of, operations, operations_in_order}

-- a record between dispatch and commit
abbrev pub IsUnderWay : Replica → ℕ → Type 0
IsUnderWay r gno = (1 ≤ gno) × (gno ≤ r.dispatched) × (has_gno r.commits gno ≡ false)

-- Each record that was dispatched has its parent below the low-water mark, and its own number near it: so all that conflict with it and
-- come before it in the log are committed, and none of those under way conflicts with another.
pub record IsEligible (r : Replica) (gno : ℕ) (rec : Record) : Type 0 where
  pub parent : rec.parent ≤ low_water r
  pub near : gno ≤ low_water r + 4096

abbrev pub AreEligible : Replica → Type 0
AreEligible r = (gno : ℕ) (rec : Record) → 1 ≤ gno → gno ≤ r.dispatched → slice_get r.accepted (gno - 1) ≡ Some rec → IsEligible r gno rec

-- ---- in the order of the log

-- The job of a record under way is over the rows of each database that the accepted records leave from the committed ones up to its own
-- place: it may be executed before those in front of it.
abbrev pub HoldAlong : Replica → Type 0
HoldAlong r = (gno n : ℕ) (job : Job) (db : Database) → IsUnderWay r gno → length r.commits ≤ n → n < gno → job_of r gno ≡ Some job → rows_at r n ≡ Some db → job.input ≡ rows_in (rows_of job.rec) db

-- the accepted records behind the committed ones, up to the n-th, state their true marks
abbrev pub StateMarksUpTo : Replica → ℕ → Type 0
StateMarksUpTo r n = (rows : Database) → rows_at r (length r.commits) ≡ Some rows → StateMarks r.tables rows (drop (length r.commits) (take n r.accepted))

-- And the marks of its record have the same holders in each of these databases that the job has, where the records that lead there
-- state their true marks. A record may be accepted that states too few: it is never committed, since its result tells of it.
abbrev pub HoldersAlong : Replica → Type 0
HoldersAlong r = (gno n : ℕ) (job : Job) (db : Database) → IsUnderWay r gno → length r.commits ≤ n → n < gno →
    job_of r gno ≡ Some job → rows_at r n ≡ Some db → StateMarksUpTo r n → job.holders ≡ holders_in r.tables job.rec.marks db

-- The commits are those from 1 to their number, so the working rows are those after so many accepted records, which state their true
-- marks, and the operations are those of these records.
pub record IsInOrder (r : Replica) : Type 0 where
  pub commits : r.commits ≡ first_gnos (length r.commits)
  pub rows : working_rows r ≡ rows_at r (length r.commits)
  pub ran_ : ran r ≡ take (length r.commits) r.accepted
  pub ops : (n : ℕ) → n ≤ length r.commits → operations r.tables r.base (ran r) n ≡ operations_in_order r.tables r.base r.accepted n
  pub stated : StateMarks r.tables (loaded r.base) (take (length r.commits) r.accepted)
  pub jobs : HoldAlong r
  pub holders : HoldersAlong r

-- ---- in any order

-- The accepted records are numbered from 1 on, and the parent of each covers those before it. Each commit is of a dispatched record that
-- is not among those before it, while each earlier one is that conflicts with it; it applies behind those before it, and states its
-- true refs and marks. What is published was committed, and what is dispatched was accepted: each of these is committed, out or
-- finished, and no more are out or finished than there are workers. No two rows of a table of the base have one value in its unique
-- column.
pub record IsSound (r : Replica) : Type 0 where
  pub accepted : AreAcceptable r.tables r.accepted
  pub commits : AreCommits r.tables (loaded r.base) r.accepted r.commits
  pub distinct : AreDistinct (r.commits ++ (r.out ++ r.finished))
  pub each : (gno : ℕ) → has_gno (r.commits ++ (r.out ++ r.finished)) gno ≡ (nat_le 1 gno && nat_le gno r.dispatched)
  pub published : r.published ≤ length r.commits
  pub dispatched : r.dispatched ≤ length r.accepted
  pub counted : r.dispatched ≡ length r.commits + (length r.out + length r.finished)
  pub busy : length r.out + length r.finished ≤ r.workers
  pub some : 1 ≤ r.workers
  pub few : r.workers ≤ 64
  pub rows : Database
  pub rows_are : working_rows r ≡ Some rows
  pub apart : NoValueTwice r.tables (loaded r.base)
  pub eligible : AreEligible r
  pub in_order : r.preserve ≡ true → IsInOrder r

-- The first n commits are a gapped state of the accepted list: with each of them each earlier record is among them that conflicts with
-- it, and what they leave in log order is what their operations leave.
pub record ShowsGapped (r : Replica) (n : ℕ) : Type 0 where
  pub closed : IsClosed (take n r.commits) r.accepted
  pub rows : gapped r.tables (loaded r.base) r.accepted (take n r.commits) ≡ Some (left_by (operations r.tables r.base (ran r) n))
