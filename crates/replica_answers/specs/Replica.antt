-- What a replica begins with, what it is asked, and what it says.
use Rattle.std.specs.Prelude.{◌≡◌, ℕ, true, List, take, Option, Some, IfSome}
use Rattle.std.specs.FinMap.{get}
use Rattle.std.specs.Io.KnownBytes.{Appends}
use mathlib.Core.List.{IsPrefix}
use Rattle.schema.specs.declared.RowId.{RowId}
use Rattle.store_trait.specs.declared.Op.{Op}
use Rattle.store_trait.specs.Batch.{Entry}
use Rattle.store_trait.specs.Operation.{loaded, left_by}
use Rattle.published.specs.History.{IsHistory, commits_in}
use Rattle.world.specs.declared.events.Reply.TheVariants.{Read}
use Rattle.script_text.specs.Printing.{line_of}
use Rattle.record_codec.specs.Log.{after, IsLegalLog}
use Rattle.replica_core.specs.Replica.{Replica}
use Rattle.replica_shared.specs.Names.{ReplicaNames}
use Rattle.log_tools.specs.Restore.{BeginsLog}

-- The bytes are the head of a log, and then these: it is the replica's source, and over its tables and rows.
pub record IsOverWire (bytes : List ℕ) (left : Option (List ℕ)) (r : Replica) : Type 0 where
  pub rows : List Entry
  pub head : BeginsLog bytes r.source r.tables rows left
  pub loads : loaded r.base ≡ loaded rows

-- the rows are those after the first so many records of the log, if that is known, and is legal over these tables and rows
abbrev pub IsAsAfter : ReplicaNames → List Op → Type 0
IsAsAfter names ops = IfSome names.log (λ log. IsLegalLog names.tables (loaded names.base) log →
    after names.tables (loaded names.base) (take (commits_in ops) log) ≡ Some (left_by ops))

-- A read is answered: the row as one history of commits in log order leaves it, and how many commits that has. It begins with all that this
-- reader saw or waited for. If the records are known that the wire has, so they leave the row, as far as these commits go.
pub record TellsRead (names : ReplicaNames) (id : RowId) (old new : List Op) (before printed : Option (List ℕ)) : Type 0 where
  pub line : Appends before printed (line_of (Read (commits_in new) 0 (get (left_by new) id)))
  pub history : IsHistory true new
  pub later : IsPrefix old new
  pub of_log : IsAsAfter names new
