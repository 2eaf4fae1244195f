-- What follows from the definitions: bytes have one head, a wire may be cut anywhere, and what a replica in another process shows.
use mathlib.Core.List.{IsPrefix}
use Rattle.std.specs.Prelude.{◌≡◌, ◌⊎◌, ℕ, ◌-◌, ◌≤◌, List, length, take, drop, Option, Some}
use Rattle.std.specs.List.{AllByRecursion}
use Rattle.schema.specs.declared.Table.{Table}
use Rattle.store_trait.specs.Batch.{Entry}
use Rattle.store_trait.specs.declared.Op.{Op}
use Rattle.store_trait.specs.Operation.{loaded, left_by}
use Rattle.record_codec.specs.declared.records.Record.{Record}
use Rattle.record_codec.specs.declared.version.Version.TheVariants.{Two}
use Rattle.record_codec.specs.Spelling.{HasSpelling}
use Rattle.record_codec.specs.Log.{after, IsLegalLog}
use Rattle.record_stream.specs.Stream.{Splits}
use Rattle.gapped.specs.Gapped.{gapped, IsClosed}
use Rattle.replica_core.specs.Replica.{Replica, rows_at, ran, operations, operations_in_order}
use Rattle.replica_core.specs.Sound.{IsSound}
use Rattle.replica_core.specs.Wire.{Wire, HasTaken}
use Rattle.log_feed.specs.Feed.{wire_text, IsHead, BeginsWith, HasMagic, HasNoHead}

-- ---- heads

pub record SameHead (source source' : List ℕ) (first first' : ℕ) (text text' rest rest' : List ℕ) : Type 0 where
  pub sources : source ≡ source'
  pub firsts : first ≡ first'
  pub texts : text ≡ text'
  pub rests : rest ≡ rest'

-- bytes begin with one head at most
abbrev pub OneHead : Type 0
OneHead = (bytes source source' : List ℕ) (first first' : ℕ) (text text' rest rest' : List ℕ) →
    BeginsWith bytes source first text rest → BeginsWith bytes source' first' text' rest' → SameHead source source' first first' text text' rest rest'

-- ---- a wire that is cut

-- the bytes are the first of these records, and then less than one more
pub record HasFirst (records : List Record) (bytes : List ℕ) : Type 0 where
  pub those : List Record
  pub begin : IsPrefix those records
  pub rest : List ℕ
  pub splits : Splits Two bytes those rest

-- the bytes are the head, and then the first of its records
pub record HasHead (source : List ℕ) (first : ℕ) (text : List ℕ) (records : List Record) (bytes : List ℕ) : Type 0 where
  pub left : List ℕ
  pub head : BeginsWith bytes source first text left
  pub records_are : HasFirst records left

-- A beginning of a wire's text ends within its head, or it has the head and the first of the records.
abbrev pub CutAnywhere : Type 0
CutAnywhere = (source : List ℕ) (first : ℕ) (text : List ℕ) (records : List Record) (bytes : List ℕ) → IsHead source first text → AllByRecursion (HasSpelling Two) records →
    IsPrefix bytes (wire_text source first text records) → (HasMagic bytes × HasNoHead bytes) ⊎ HasHead source first text records bytes

-- ---- two processes

-- what both programs take a head's text to say: the tables, and the rows before the first record, as the batch that loads them
abbrev pub Meaning : Type 0
Meaning = List ℕ → Option (List Table × List Entry)

-- What is written of a log that is legal over these tables and rows, if its first n records are synced: a head whose text says the tables and
-- the rows, and the synced records from the head's gno on.
pub record IsFed (means : Meaning) (ts : List Table) (base : List Entry) (log : List Record) (n : ℕ) (written : List ℕ) : Type 0 where
  pub source : List ℕ
  pub first : ℕ
  pub text : List ℕ
  pub is_head : IsHead source first text
  pub says : means text ≡ Some (ts, base)
  pub legal : IsLegalLog ts (loaded base) log
  pub have : AllByRecursion (HasSpelling Two) (drop (first - 1) (take n log))
  pub is_text : written ≡ wire_text source first text (drop (first - 1) (take n log))

-- What a replica read: a head, with whose tables and rows it began, and then bytes that its wire took.
pub record IsFollower (means : Meaning) (start : Replica) (read : List ℕ) (wire : Wire) (r : Replica) : Type 0 where
  pub first : ℕ
  pub text : List ℕ
  pub bytes : List ℕ
  pub head : BeginsWith read wire.source first text bytes
  pub says : means text ≡ Some (start.tables, start.base)
  pub takes : HasTaken start bytes wire r
  pub base_stays : r.base ≡ start.base

-- What a replica shows of a log of which n records are synced.
pub record ShowsTheLog (ts : List Table) (base : List Entry) (log : List Record) (n : ℕ) (r : Replica) : Type 0 where
  -- it accepted the first of the synced records,
  pub accepted : IsPrefix r.accepted (take n log)
  -- and has the source's rows after each number of them
  pub rows : (u : ℕ) → u ≤ length r.accepted → rows_at r u ≡ after ts (loaded base) (take u log)
  -- in the order of the log: who saw the load and the first commits saw the source's rows after as many records
  pub seen : (ops : List Op) (u : ℕ) → u ≤ length r.accepted → IsPrefix ops (operations_in_order r.tables r.base r.accepted u) → 1 ≤ length ops →
      after ts (loaded base) (take (length ops - 1) log) ≡ Some (left_by ops)
  -- in any order: who saw the load and the first commits saw what their records leave in log order, and with each of them each earlier one that
  -- conflicts with it
  pub closed : IsSound r → (u : ℕ) → u ≤ length r.commits → IsClosed (take u r.commits) (take n log)
  pub gapped_rows : IsSound r → (u : ℕ) → u ≤ length r.commits →
      gapped ts (loaded base) (take n log) (take u r.commits) ≡ Some (left_by (operations r.tables r.base (ran r) u))

-- If what was read is a beginning of what was written, and the replica began with a beginning of the synced records, as a new one does with none,
-- it shows the log.
abbrev pub TwoProcesses : Type 0
TwoProcesses = (means : Meaning) (ts : List Table) (base : List Entry) (log : List Record) (n : ℕ) (written read : List ℕ) (start : Replica) (wire : Wire) (r : Replica) →
    IsFed means ts base log n written → IsPrefix read written → IsFollower means start read wire r → IsPrefix start.accepted (take n log) → ShowsTheLog ts base log n r
