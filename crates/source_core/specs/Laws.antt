-- What follows from the definitions.
use Rattle.std.specs.Prelude.{◌≡◌, ℕ, ◌+◌, ◌++◌, List, [], ◌∷◌, length, map, drop}
use Rattle.schema.specs.declared.Table.{Table}
use Rattle.schema.specs.Rows.{Touched}
use Rattle.schema.specs.Covering.{Covers}
use Rattle.rows.specs.Database.{Database}
use Rattle.record_codec.specs.declared.records.Record.{Record}
use Rattle.record_codec.specs.Group.{GroupValue, size_of}
use Rattle.record_codec.specs.Log.{place_of, IsLegalLog}
use Rattle.source_core.specs.Source.{Source, IsSound}
use Rattle.source_core.specs.Calls.{Flushes, IsOldest}

-- the number of records of a legal log is a parent that covers all of them
abbrev pub LengthCovers : Type 0
LengthCovers = (ts : List Table) (base : Database) (log : List Record) → IsLegalLog ts base log → (rows : Touched) → Covers (map place_of log) rows (length log)

-- the group of a flush begins behind the log, and ends where the log then does
abbrev pub GroupEnds : Type 0
GroupEnds = (old new : Source) (group : GroupValue) → IsSound old → Flushes old group new → (group.first ≡ length old.log + 1) × (group.last ≡ length new.log)

-- the group of a flush is counted behind the unsynced groups before it
abbrev pub GroupIsCounted : Type 0
GroupIsCounted = (old new : Source) (group : GroupValue) → IsSound old → Flushes old group new → new.group_sizes ≡ old.group_sizes ++ size_of group ∷ []

-- the group of a flush is the oldest unsynced one, once all that was flushed before it is synced
abbrev pub GroupIsOldest : Type 0
GroupIsOldest =
    (old new later : Source) (group : GroupValue) (more : List Record) (sizes : List ℕ) → IsSound old → Flushes old group new → later.log ≡ new.log ++ more → later.synced ≡ length old.log →
    later.group_sizes ≡ drop (length old.group_sizes) new.group_sizes ++ sizes → IsOldest later group
