-- The log of a wire's records, if the wire's bytes are known before, and what a wire has read of it.
use Rattle.std.specs.Prelude.{◌≡◌, ◌≤◌, ℕ, zero, suc, ◌+◌, Bool, true, ◌==◌, ◌&&◌, if◌then◌else◌, List, [], ◌∷◌, ◌++◌, length, Option, Some, None, IfSome, option_map, Ok, Err}
use mathlib.Core.List.{IsPrefix}
use Rattle.schema.specs.declared.Table.{Table}
use Rattle.store_trait.specs.Batch.{Entry}
use Rattle.store_trait.specs.declared.Op.{Op}
use Rattle.record_codec.specs.declared.records.Record.{Record}
use Rattle.record_codec.specs.Group.{AreNumbered}
use Rattle.record_codec.specs.Reading.{Read, record_at}
use Rattle.record_codec.specs.Version.{current}
use Rattle.record_stream.specs.Stream.{AreFirst, Splits}
use Rattle.replica_core.specs.Replica.{operations_in_order}
use Rattle.replica_core.specs.Wire.{Wire}
use Rattle.replica_answers.specs.declared.following.Fed.{Fed}
use Rattle.replica_answers.specs.declared.following.Fed.TheVariants as fed
use Rattle.replica_answers.specs.declared.following.Handed.{Handed}
use Rattle.replica_answers.specs.declared.following.Handed.TheVariants as handed
use Rattle.replica_answers.specs.declared.following.WireEnd.{WireEnd}
use Rattle.replica_answers.specs.declared.following.WireEnd.TheVariants as ends

-- ---- the log of bytes

-- a record that was read at the front, and those after it
abbrev pub with_next : (List ℕ → List Record) → Read Record → List Record
with_next more (Ok next) = next.0 ∷ more next.1
with_next more (Err fault) = []

-- the records with which the bytes begin, so many at most
abbrev pub records_by : ℕ → List ℕ → List Record
records_by zero bytes = []
records_by (suc n) bytes = with_next (records_by n) (record_at current bytes)

-- all of them
abbrev pub records_in : List ℕ → List Record
records_in bytes = records_by (length bytes) bytes

-- the records' numbers are this one, the next, and so on
abbrev pub are_numbered : ℕ → List Record → Bool
are_numbered n [] = true
are_numbered n (r ∷ records) = (r.gno == n) && are_numbered (n + 1) records

-- the records of a wire from its head on, if its bytes are known, and are records that are numbered from 1 on
abbrev pub log_in : Option (List ℕ) → Option (List Record)
log_in None = None
log_in (Some bytes) = if are_numbered 1 (records_in bytes) then Some (records_in bytes) else None

-- all that a replica of a log may publish, over these tables and rows, if the log is known
abbrev pub known_over : List Table → List Entry → Option (List Record) → Option (List Op)
known_over ts base log = option_map (λ l. operations_in_order ts base l (length l)) log

-- ---- what a wire has read

-- These bytes were read: they are the records that were handed on, those that wait, and less than one more.
pub record HasRead (read : List ℕ) (wire : Wire) : Type 0 where
  pub gone : List Record
  pub splits : Splits current read (gone ++ wire.waiting) wire.rest

-- The records of a log are numbered, and whatever records the bytes begin with are its first ones.
pub record Covers (log : List Record) (bytes : List ℕ) : Type 0 where
  pub numbered : AreNumbered 1 log
  pub begin : (part : List ℕ) (records : List Record) (left : List ℕ) → IsPrefix part bytes → AreFirst current part records left → IsPrefix records log

-- what was read, and what is left, are of the log, if that is known
abbrev pub IsFollowing : Option (List Record) → Option (List ℕ) → Wire → Type 0
IsFollowing None left wire = Unit {0}
IsFollowing (Some log) None wire = ⊥
IsFollowing (Some log) (Some left) wire = (read : List ℕ) × HasRead read wire × Covers log (read ++ left)

-- these bytes come next, and are of the log too
abbrev pub IsAhead : Option (List Record) → Wire → List ℕ → Type 0
IsAhead None wire bytes = Unit {0}
IsAhead (Some log) wire bytes = (read : List ℕ) × (more : List ℕ) × HasRead read wire × Covers log (read ++ (bytes ++ more))

-- these bytes were read then
abbrev pub HasMoved : Wire → List ℕ → Wire → Type 0
HasMoved old bytes new = (read : List ℕ) → HasRead read old → HasRead (read ++ bytes) new

-- none were
abbrev pub HasStayed : Wire → Wire → Type 0
HasStayed old new = (read : List ℕ) → HasRead read old → HasRead read new

-- Of the bytes of a wire these are left, after those that were read, if the bytes are known.
abbrev pub IsReadOf : Option (List ℕ) → Option (List ℕ) → Wire → Type 0
IsReadOf None left wire = Unit {0}
IsReadOf (Some bytes) None wire = ⊥
IsReadOf (Some bytes) (Some left) wire = (read : List ℕ) × (bytes ≡ read ++ left) × HasRead read wire

-- ---- how a wire ends

-- all bytes were read, and they are whole records
abbrev pub AreWhole : Option (List ℕ) → List ℕ → Type 0
AreWhole left bytes = (left ≡ Some []) × ((records : List Record) × Splits current bytes records [])

-- all were, and they are whole records, and less than one more
abbrev pub AreCut : Option (List ℕ) → List ℕ → Type 0
AreCut left bytes = (left ≡ Some []) × ((records : List Record) × (rest : List ℕ) × (1 ≤ length rest) × Splits current bytes records rest)

-- how a wire of these bytes ended, if they are known, and what is left of them
abbrev pub EndsSo : WireEnd → Option (List ℕ) → Option (List ℕ) → Type 0
EndsSo ends.Closed bytes left = IfSome bytes (AreWhole left)
EndsSo ends.Cut bytes left = IfSome bytes (AreCut left)
EndsSo (ends.Failed error) bytes left = Unit {0}
EndsSo (ends.Refused fault) bytes left = Unit {0}

-- ---- what private functions say

-- what a call made of bytes
abbrev pub IsFed : Wire → List ℕ → Fed → Wire → Type 0
IsFed old bytes fed.Taken new = HasMoved old bytes new
IsFed old bytes fed.Lacks new = HasStayed old new
IsFed old bytes fed.Waits new = HasMoved old bytes new
IsFed old bytes (fed.NoRecord fault) new = HasStayed old new
IsFed old bytes (fed.Refused fault) new = Unit {0}

-- what became of them in the end
abbrev pub IsHanded : Wire → List ℕ → Handed → Wire → Type 0
IsHanded old bytes handed.All new = HasMoved old bytes new
IsHanded old bytes (handed.NoRecord fault) new = HasStayed old new
IsHanded old bytes (handed.Refused fault) new = Unit {0}

-- and of the records that waited
abbrev pub HasHandedOn : Wire → Handed → Wire → Type 0
HasHandedOn old handed.All new = HasStayed old new
HasHandedOn old (handed.NoRecord fault) new = ⊥
HasHandedOn old (handed.Refused fault) new = Unit {0}
