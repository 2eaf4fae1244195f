-- A source that goes on from a log: all of it is synced and committed, no session has a transaction, and nothing waits.
use Rattle.std.specs.Prelude.{◌≡◌, ℕ, ◌+◌, ◌<◌, ◌≤◌, ◌^◌, List, [], ◌∷◌, length, map}
use Rattle.schema.specs.declared.Table.{Table}
use Rattle.rows.specs.Database.{writes}
use Rattle.store_trait.specs.Batch.{Entry}
use Rattle.store_trait.specs.Operation.{loaded}
use Rattle.record_codec.specs.declared.records.Record.{Record}
use Rattle.record_codec.specs.Log.{IsLegalLog, AreShaped}
use Rattle.log_index.specs.declared.Entry.{Entry as Seen}
use Rattle.log_index.specs.declared.Footprint.{Footprint}
use Rattle.log_index.specs.Footprint.{footprint_of}
use Rattle.write_set.specs.Digest.{digests_of}
use Rattle.tracker_trait.specs.Kind.{Kind}
use Rattle.tracker_trait.specs.Law.{IsOfTables}
use Rattle.source_core.specs.Source.{Source, IsSound, entry_of, new_source}

-- the session of a record that was there before the source: none of its own
abbrev pub nobody : ℕ
nobody = 0

abbrev pub owners_of : List Record → List ℕ
owners_of log = map (λ _. nobody) log

-- the records as trackers see them
abbrev pub observed : List Table → List Record → List Seen
observed ts log = map (λ made. entry_of ts made nobody) log

-- what a source that goes on from a log is seen as
abbrev pub source_at : List Table → List Entry → ℕ → Kind → List Record → Source
source_at ts base limit kind log = record (new_source ts base limit kind) {
  log = log;
  synced = length log;
  committed = length log;
  owners = owners_of log;
}

-- it is sound, where the log is one that a source of this limit may have written
abbrev pub IsSoundAtLog : Type 0
IsSoundAtLog =
    (ts : List Table) (base : List Entry) (limit : ℕ) (kind : Kind) (log : List Record) → IsLegalLog ts (loaded base) log → AreShaped ts log → length log ≤ limit → limit < 2 ^ 63 →
    IsSound (source_at ts base limit kind log)

-- at the log of no records it is a new one
abbrev pub NewIsAtEmptyLog : Type 0
NewIsAtEmptyLog = (ts : List Table) (base : List Entry) (limit : ℕ) (kind : Kind) → source_at ts base limit kind [] ≡ new_source ts base limit kind

-- what a tracker sees of a record
abbrev pub footprint_at : List Table → Record → Footprint
footprint_at ts made = footprint_of ts (writes made.changes) made.refs made.marks

-- A tracker may see the record as the one of this number, which it has. Its parent is below it, and what it touches is of the tables.
pub record IsObservable (ts : List Table) (number : ℕ) (made : Record) : Type 0 where
  pub sequence : made.sequence ≡ number
  pub below : made.parent < made.sequence
  pub of_tables : IsOfTables ts (footprint_at ts made) (digests_of ts (footprint_at ts made))

-- these, the first of this number
abbrev pub AreObservable : List Table → ℕ → List Record → Type 0
AreObservable ts number [] = Unit {0}
AreObservable ts number (made ∷ log) = IsObservable ts number made × AreObservable ts (number + 1) log
