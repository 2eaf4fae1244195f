-- What the parts of a replica keep.
use Rattle.std.specs.Prelude.{◌≡◌, ◌⊎◌, ℕ, ◌+◌, ◌≤◌, ◌&&◌, ◌==◌, nat_le, Bool, true, false, if◌then◌else◌, List, [], ◌∷◌, ◌++◌, map, length, Option, Some, None, is_some, option_and_then, Result, Ok}
use Rattle.std.specs.Prelude.{◌^◌, ◌<◌, Err, IfSome}
use Rattle.std.specs.List.{AllByRecursion, position_or_len}
use Rattle.std.specs.Option.{option_map}
use Rattle.std.specs.Map.{keys_of}
use Rattle.std.specs.FinMap.{get}
use Rattle.schema.specs.declared.Memory.{Memory}
use Rattle.schema.specs.declared.Table.{Table}
use Rattle.schema.specs.Rows.{Mark}
use Rattle.rows.specs.Database.{Database, NoValueTwice}
use Rattle.store_trait.specs.Batch.{Entry, put_batch}
use Rattle.store_trait.specs.Operation.{loaded}
use Rattle.store_trait.specs.declared.Op.TheVariants.{Commit}
use Rattle.store_trait.specs.declared.Op.{Op}
use Rattle.executor.specs.declared.Job.{Job}
use Rattle.executor.specs.declared.Outcome.TheVariants.{Output}
use Rattle.executor.specs.Held.{Holder}
use Rattle.executor.specs.Job.{Finished, IsResult, output_of}
use Rattle.relay.specs.declared.ReplicaFault.{ReplicaFault}
use Rattle.relay.specs.declared.ReplicaFault.TheVariants.{WrongInput}
use Rattle.relay.specs.Relay as relay
use Rattle.relay.specs.Relay.{AreAcceptable}
use Rattle.gtid_set.specs.Ids.{Ids, IsSet}
use Rattle.gtid_set.specs.Numbers.{has_number}
use Rattle.row_index.specs.Keys.{Keys, Indexes, marks_at, moved}
use Rattle.scheduler.specs.Gnos.{has_gno, low_of, first_gnos, AreDistinct}
use Rattle.scheduler.specs.Marks.{Marks, is_committed}
use Rattle.gapped.specs.Gapped.{AreCommits}
use Rattle.gone_records.specs.Going.{MayBeGone}
use Rattle.commit_order.specs.Turns.{Line, turn, passed}
use Rattle.replica_core.specs.declared.dispatching.HandedOut.{HandedOut}
use Rattle.replica_core.specs.Replica.{Replica, working_rows, waiting, job_of}
use Rattle.replica_core.specs.Sound.{AreEligible, IsSound}
use Rattle.replica_core.specs.Calls.{finish_fault, IsHandedOut}

-- the gnos of the commits: in the order of the log those up to the mark, else as they are kept
abbrev pub commits_seen : Bool → ℕ → List ℕ → List ℕ
commits_seen preserve low order = if preserve then first_gnos low else order

-- a replica of these parts
abbrev pub seen_as : relay.Relay → List Entry → Marks → List ℕ → ℕ → Line → ℕ → Option ℕ → Bool → Replica
seen_as received base marks order published line workers stopped keeps = record {
  tables = received.tables;
  source = received.source;
  base = base;
  accepted = received.accepted;
  preserve = line.preserve;
  commits = commits_seen line.preserve marks.low order;
  published = published;
  dispatched = length (commits_seen line.preserve marks.low order) + (length line.out + length line.done);
  out = line.out;
  finished = map (λ (result : Finished). result.job.gno) line.done;
  workers = workers;
  stopped = stopped;
  keeps = keeps;
}

-- the result is of this job, and an output came of it
pub record IsTaken (handed_out : Option Job) (result : Finished) : Type 0 where
  pub job : handed_out ≡ Some result.job
  pub left : List Entry
  pub output : result.outcome ≡ Output left
  pub came : IsResult result

-- what no call changes: there are between 1 and 64 workers
pub record IsSetUp (workers : ℕ) : Type 0 where
  pub some : 1 ≤ workers
  pub few : workers ≤ 64

-- What only records and commits change: the commits may come one behind another, the rows are what they leave, the keys say who has
-- each mark among them, and the operations are the commits that are not published; and the base has no value twice in a unique column.
pub record IsLogKept (r : Replica) (rows : Database) (keys : Keys) (ops : List Op) : Type 0 where
  pub acceptable : AreAcceptable r.tables r.accepted
  pub commits : AreCommits r.tables (loaded r.base) r.accepted r.commits
  pub rows_are : working_rows r ≡ Some rows
  pub apart : NoValueTwice r.tables (loaded r.base)
  pub indexed : Indexes r.tables rows keys
  pub published : r.published ≤ length r.commits
  pub ops_are : ops ≡ waiting r

-- what is kept of a job: its rows, and the holders of its marks
abbrev pub kept_of : Job → HandedOut
kept_of job = record { gno = job.gno; input = job.input; holders = job.holders }

-- these marks, each with the key of the row that has it
abbrev pub looked_up : Keys → List Mark → List Holder
looked_up keys marks = map (λ mark. (mark, get keys mark)) marks

-- The line has those that are out, and the results of those that are finished; in the order of the log its turn is that of the record
-- behind the commits.
pub record IsTurned (kept : Bool) (commits running finished : List ℕ) (line : Line) : Type 0 where
  pub preserve : line.preserve ≡ kept
  pub next : kept ≡ true → line.next ≡ length commits + 1
  pub out : line.out ≡ running
  pub done : map (λ (result : Finished). result.job.gno) line.done ≡ finished

-- The records dispatched are each committed, out or finished. The scheduler has the commits marked. In the order of the log they are
-- those from 1 to their number.
pub record IsCounted (kept : Bool) (number workers : ℕ) (commits out finished : List ℕ) (marks : Marks) : Type 0 where
  pub counted : number ≡ length commits + (length out + length finished)
  pub busy : length out + length finished ≤ workers
  pub distinct : AreDistinct (commits ++ (out ++ finished))
  pub each : (gno : ℕ) → has_gno (commits ++ (out ++ finished)) gno ≡ (nat_le 1 gno && nat_le gno number)
  pub marked : (gno : ℕ) → 1 ≤ gno → is_committed marks gno ≡ has_gno commits gno
  pub low : marks.low ≡ low_of commits
  pub in_turn : kept ≡ true → commits ≡ first_gnos (length commits)

-- The parts of a replica stand together. What is kept is of the jobs that have no result, in log order, and each result that was taken is
-- of its record's job.
pub record ArePartsOf (r : Replica) (marks : Marks) (line : Line) (handed : List HandedOut) (rows : Database) (keys : Keys) (ops : List Op) : Type 0 where
  pub set_up : IsSetUp r.workers
  pub log : IsLogKept r rows keys ops
  pub turned : IsTurned r.preserve r.commits r.out r.finished line
  pub within : r.dispatched ≤ length r.accepted
  pub counted : IsCounted r.preserve r.dispatched r.workers r.commits r.out r.finished marks
  pub eligible : AreEligible r
  pub kept : map Some handed ≡ map (λ gno. option_map kept_of (job_of r gno)) r.out
  pub results : AllByRecursion (λ (result : Finished). IsTaken (job_of r result.job.gno) result) line.done

-- And this many of the first accepted records are gone: none past the mark, since only those up to it are not asked for any more.
-- So the replica is sound, the records dispatched have numbers that fit, the mark is not above them, and in the order of the log it is
-- the number of the commits.
pub record Holds (r : Replica) (gone : ℕ) (marks : Marks) (line : Line) (handed : List HandedOut) (rows : Database) (keys : Keys) (ops : List Op) : Type 0 where
  pub parts : ArePartsOf r marks line handed rows keys ops
  pub kept : MayBeGone r.keeps gone marks.low
  pub sound : IsSound r
  pub fits : r.dispatched < 2 ^ 63
  pub low_within : marks.low ≤ r.dispatched
  pub low_in_turn : r.preserve ≡ true → marks.low ≡ length r.commits

-- ---- the next commit

-- the rows of the result whose turn has come, where it has any; and with them its record's number
abbrev pub turn_output : Line → Option (List Entry)
turn_output line = option_and_then (λ (result : Finished). output_of result.outcome) (turn line)

abbrev pub turn_rows : Line → Option (ℕ × List Entry)
turn_rows line = option_and_then (λ (result : Finished). option_map (λ rows. (result.job.gno, rows)) (output_of result.outcome)) (turn line)

-- the parts that a commit changes: the line, the working rows, who has each value there, the operations that wait, and the gnos of the
-- commits, where these are kept
pub record Parts : Type 0 where
  pub line : Line
  pub rows : Database
  pub keys : Keys
  pub ops : List Op
  pub order : List ℕ

abbrev pub parts_of : Line → Database → Keys → List Op → List ℕ → Parts
parts_of line rows keys ops order = record { line = line; rows = rows; keys = keys; ops = ops; order = order }

-- the rows of the result whose turn had come were put, the keys followed them, and they are kept as the commit of its record
pub record CommitsTurn (ts : List Table) (gno : ℕ) (old new : Parts) : Type 0 where
  pub left : List Entry
  pub output : turn_rows old.line ≡ Some (gno, left)
  pub line_is : new.line ≡ passed old.line
  pub rows_are : new.rows ≡ put_batch left old.rows
  pub keys_are : new.keys ≡ moved ts (marks_at ts (keys_of left) old.rows) left old.keys
  pub ops_are : new.ops ≡ old.ops ++ Commit gno left ∷ []
  pub order_is : new.order ≡ (if old.line.preserve then old.order else old.order ++ gno ∷ [])

-- no result has its turn, or memory ran out, and nothing changed
pub record LeavesTurn (is_there : Bool) (old new : Parts) : Type 0 where
  pub there : is_some (turn_rows old.line) ≡ is_there
  pub same : new ≡ old

abbrev pub TakesTurn : List Table → Result (Option ℕ) Memory → Parts → Parts → Type 0
TakesTurn ts (Ok (Some gno)) old new = CommitsTurn ts gno old new
TakesTurn ts (Ok None) old new = LeavesTurn false old new
TakesTurn ts (Err memory) old new = LeavesTurn true old new

-- ---- results

-- the place of a number among these; past all of them where it is not there
abbrev pub place_in : List ℕ → ℕ → ℕ
place_in gnos gno = position_or_len (λ (n : ℕ). n == gno) gnos

-- what is told of a result: it is of a job that was handed out and of which none was taken, and this is the place where what was handed
-- out is kept; or this refuses it
abbrev pub IsJudged : Replica → Finished → Result ℕ ReplicaFault → Type 0
IsJudged r result (Ok place) = (finish_fault r result.job.gno ≡ None) × IsHandedOut r result × (place ≡ place_in r.out result.job.gno)
IsJudged r result (Err fault) =
    (finish_fault r result.job.gno ≡ Some fault)
    ⊎ ((finish_fault r result.job.gno ≡ None) × (IsHandedOut r result → ⊥) × (fault ≡ WrongInput))

-- ---- ids

-- the numbers of these ids are those from 1 to the last one that are marked, and their source is this one
pub record AreMarked (source : List ℕ) (marks : Marks) (last : ℕ) (ids : Ids) : Type 0 where
  pub is_set : IsSet ids
  pub source_is : IfSome ids.source (λ own. own ≡ source)
  pub numbers : (gno : ℕ) → has_number ids.numbers gno ≡ (nat_le 1 gno && nat_le gno last && is_committed marks gno)

-- some number is marked
pub record IsMarked (marks : Marks) : Type 0 where
  pub gno : ℕ
  pub from_one : 1 ≤ gno
  pub marked : is_committed marks gno ≡ true
