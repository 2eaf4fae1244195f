-- What follows from the definitions alone: what a replica reads of a wire is what was written on it.
use mathlib.Core.List.{IsPrefix}
use Rattle.std.specs.Prelude.{◌≡◌, ℕ, ◌≤◌, List, length, take, Some}
use Rattle.std.specs.List.{AllByRecursion}
use Rattle.store_trait.specs.declared.Op.{Op}
use Rattle.store_trait.specs.Operation.{loaded, left_by}
use Rattle.record_codec.specs.declared.records.Record.{Record}
use Rattle.record_codec.specs.Group.{AreNumbered}
use Rattle.record_codec.specs.Log.{after, IsLegalLog}
use Rattle.record_codec.specs.Spelling.{HasSpelling}
use Rattle.record_codec.specs.declared.version.Version.TheVariants.{Two}
use Rattle.log_feed.specs.Feed.{wire_text, IsHead, BeginsWith}
use Rattle.replica_shared.specs.Names.{ReplicaNames}
use Rattle.replica_answers.specs.Followed.{log_in}
use Rattle.replica_answers.specs.Replica.{IsAsAfter}

-- The bytes are a beginning of a wire with this head and these records, which are numbered from 1 on.
pub record WereWritten (source text : List ℕ) (records : List Record) (bytes : List ℕ) : Type 0 where
  pub is_head : IsHead source 1 text
  pub numbered : AreNumbered 1 records
  pub have : AllByRecursion (HasSpelling Two) records
  pub begin : IsPrefix bytes (wire_text source 1 text records)

-- A replica is named for the log of the bytes that come after a head, and those records are legal over its tables and rows.
pub record IsNamedFor (names : ReplicaNames) (records : List Record) (rest : List ℕ) : Type 0 where
  pub log : names.log ≡ log_in (Some rest)
  pub legal : IsLegalLog names.tables (loaded names.base) records

-- the rows are those after a beginning of these records
abbrev pub AreAfterSome : ReplicaNames → List Record → List Op → Type 0
AreAfterSome names records ops = (n : ℕ) × (n ≤ length records) × (after names.tables (loaded names.base) (take n records) ≡ Some (left_by ops))

-- Whoever reads a beginning of what was written reads its source and its text; and what is read of a replica of it, where it is as after a beginning of the log that came, is
-- as after a beginning of the records that were written.
abbrev pub ReadsAreOfTheWire : Type 0
ReadsAreOfTheWire = (names : ReplicaNames) (source text from said rest bytes : List ℕ) (records : List Record) (ops : List Op) →
    WereWritten source text records bytes → BeginsWith bytes from 1 said rest → IsNamedFor names records rest → IsAsAfter names ops →
    (from ≡ source) × (said ≡ text) × AreAfterSome names records ops
