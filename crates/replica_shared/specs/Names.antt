-- Which replica a shared one is: what its core is over, and with what it opens.
use Rattle.std.specs.Prelude.{◌≡◌, ℕ, ◌-◌, ◌≤◌, Bool, true, Option, None, Some, List, length, slice_get}
use mathlib.Core.List.{IsPrefix}
use Rattle.logbook.specs.Pages.{Book}
use Rattle.schema.specs.declared.Table.{Table}
use Rattle.store_trait.specs.Batch.{Entry}
use Rattle.store_trait.specs.declared.Op.{Op}
use Rattle.record_codec.specs.declared.records.Record.{Record}
use Rattle.published.specs.Publication.{Begun}
use Rattle.replica_core.specs.Replica.{Replica, operations_in_order}
use Rattle.replica_core.specs.Calls.{new_over}

pub record ReplicaNames : Type 0 where
  -- the schema's tables
  pub tables : List Table
  -- the identifier of the source whose records it takes
  pub source : List ℕ
  -- the rows before the first commit
  pub base : List Entry
  -- the record of each number, from 1 on, if these are known before
  pub log : Option (List Record)
  -- whether it keeps all accepted records; if not, those that are committed may go
  pub keeps : Bool

-- those of a core, of whose log nothing is known
abbrev pub replica_names : Replica → ReplicaNames
replica_names r = record { tables = r.tables; source = r.source; base = r.base; log = None; keeps = r.keeps }

-- a core of this replica
abbrev pub IsReplicaOf : ReplicaNames → Bool → Replica → Type 0
IsReplicaOf names preserve r = (r.tables ≡ names.tables) × (r.source ≡ names.source) × (r.base ≡ names.base) × (r.preserve ≡ preserve) × (r.keeps ≡ names.keeps)

-- a new one, which keeps all records or lets committed ones go
abbrev pub IsNewReplica : ReplicaNames → Bool → Replica → Type 0
IsNewReplica names preserve r = r ≡ record (new_over names.tables names.source names.base r.workers preserve) { keeps = names.keeps }

-- ---- a log that is known before

-- what is accepted is a beginning of the log, if that is known
abbrev pub IsOfLog : Option (List Record) → List Record → Type 0
IsOfLog None accepted = Unit {0}
IsOfLog (Some log) accepted = IsPrefix accepted log

-- a record has its place in the log, if that is known
abbrev pub IsInLog : Option (List Record) → Record → Type 0
IsInLog None new = Unit {0}
IsInLog (Some log) new = (1 ≤ new.gno) × (slice_get log (new.gno - 1) ≡ Some new)

-- all that may be published, over these tables and these rows, if the log is known
abbrev pub IsKnownOver : List Table → List Entry → Option (List Record) → Bool → Option (List Op) → Type 0
IsKnownOver ts base None preserve known = known ≡ None
IsKnownOver ts base (Some log) preserve known = (preserve ≡ true) × (known ≡ Some (operations_in_order ts base log (length log)))

-- All that may be published is what the log's records leave, one after another. A log is known only if it is committed in its order.
abbrev pub IsKnown : ReplicaNames → Bool → Option (List Op) → Type 0
IsKnown names preserve known = IsKnownOver names.tables names.base names.log preserve known

-- ---- how it opens

-- a new core, with a publication of its rows that begins, which is this one, and may publish this
abbrev pub OpensReplica : ReplicaNames → Bool → Book → Option (List Op) → Replica → Begun → Type 0
OpensReplica names preserve book known core publication =
    IsNewReplica names preserve core × (publication.book ≡ book) × (publication.base ≡ names.base) × IsKnown names preserve known
