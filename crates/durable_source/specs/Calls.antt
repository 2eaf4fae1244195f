-- What the calls leave.
use Rattle.std.specs.Prelude.{◌≡◌, ◌⊎◌, ℕ, List, ◌∷◌, [], ◌++◌}
use Rattle.record_codec.specs.declared.records.Record.{Record}
use Rattle.record_codec.specs.Group.{GroupValue, AreRecordsOf}
use Rattle.source_core.specs.Source.{Source}
use Rattle.source_core.specs.Calls.{Flushes, with_synced, halted}
use Rattle.log_file.specs.declared.fault.LogFault.TheVariants as log_faults
use Rattle.log_file.specs.Calls.{ends, appended, synced, FailsToPut}
use Rattle.log_set.specs.Set.{SetOn, HasSameFiles, IsLeft, IsSetNotMade, IsSetNotFinished}
use Rattle.durable_source.specs.declared.fault.DurableFault.{DurableFault}
use Rattle.durable_source.specs.declared.fault.DurableFault.TheVariants.{OfLog}
use Rattle.durable_source.specs.Durable.{Durable}

-- A call of the source alone: the log rests, no device is called, and the same groups wait.
abbrev pub with_source : {D : Type 0} → Durable D → Source → Durable D
with_source s next = record s { source = next }

-- a flush: the group, told by its first and its last gno, waits after the others
pub record GroupWaits (old : Source) (before : List GroupValue) (told : ℕ × ℕ) (new : Source) (now : List GroupValue) : Type 0 where
  pub group : GroupValue
  pub flushes : Flushes old group new
  pub told_are : told ≡ ends group
  pub waits : now ≡ before ++ group ∷ []

-- A sync: the oldest group, told by its first and its last gno, is on the log with its records, and synced at the source. It waits no longer.
pub record SyncsGroup {D : Type 0} (old : Durable D) (told : ℕ × ℕ) (new : Durable D) : Type 0 where
  pub group : GroupValue
  pub waits : old.unsynced ≡ group ∷ new.unsynced
  pub told_are : told ≡ ends group
  pub source : new.source ≡ with_synced old.source group.last
  pub log : (records : List Record) → AreRecordsOf group records → new.set.log ≡ synced group records (appended group old.set.log)
  pub files : HasSameFiles old.set new.set

-- the oldest group was not put on the log since its device failed: the source is halted
pub record SyncFails {D : Type 0} (old new : Durable D) : Type 0 where
  pub group : GroupValue
  pub others : List GroupValue
  pub waits : old.unsynced ≡ group ∷ others
  pub source : new.source ≡ halted old.source
  pub unsynced : new.unsynced ≡ old.unsynced
  pub log : FailsToPut group old.set.log new.set.log
  pub files : HasSameFiles old.set new.set

-- memory ran out: the group goes on waiting, and nothing changed, but that the last file's device may have been called
pub record SyncLacks {D : Type 0} (old new : Durable D) : Type 0 where
  pub group : GroupValue
  pub others : List GroupValue
  pub waits : old.unsynced ≡ group ∷ others
  pub same : new ≡ record old { set = new.set }
  pub log : new.set.log ≡ old.set.log
  pub files : HasSameFiles old.set new.set

-- by the fault
abbrev pub NotSynced : {D : Type 0} → DurableFault → Durable D → Durable D → Type 0
NotSynced fault old new = ((fault ≡ OfLog log_faults.Device) × SyncFails old new) ⊎ ((fault ≡ OfLog log_faults.Memory) × SyncLacks old new)

-- The log did not go on in a next file, and the given device came back. One of both devices failed, and the source is halted: the next file was
-- not made on the given device, or it was, and the last file could not be finished.
pub record RotateFails {D : Type 0} (seen : D → List ℕ) (faults : D → ℕ) (old : Source) (before : SetOn D) (given : D) (new : Source) (now : SetOn D) (back : D) : Type 0 where
  pub set : IsSetNotMade seen faults before given now back ⊎ IsSetNotFinished seen faults before given now back
  pub source : new ≡ halted old

-- by the fault; if memory ran out nothing changed
abbrev pub NotRotated : {D : Type 0} → (D → List ℕ) → (D → ℕ) → DurableFault → Source → SetOn D → D → Source → SetOn D → D → Type 0
NotRotated seen faults fault old before given new now back =
    ((fault ≡ OfLog log_faults.Device) × RotateFails seen faults old before given new now back)
    ⊎ ((fault ≡ OfLog log_faults.Memory) × (new ≡ old) × (now ≡ before) × IsLeft seen faults given back)
