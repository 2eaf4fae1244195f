-- Logs of entries.
use Rattle.std.specs.Prelude.{◌≡◌, ℕ, ◌+◌, ◌^◌, ◌<◌, List, length, slice_get, Some}
use Rattle.schema.specs.Rows.{Touched}
use Rattle.log_index.specs.declared.Entry.{Entry}
use Rattle.log_index.specs.Footprint.{touched}

-- what is known of a log: its entries in order, and how many more fit in the memory that it has
pub record Entries : Type 0 where
  pub entries : List Entry
  pub room : ℕ

-- the entry has this sequence number, and a parent below it
pub record IsAt (sequence : ℕ) (entry : Entry) : Type 0 where
  pub number : entry.sequence ≡ sequence
  pub below : entry.parent < sequence

-- the entries have the sequence numbers 1, 2, 3 and on, each with a parent below its own
abbrev pub IsNumbered : List Entry → Type 0
IsNumbered log = (i : ℕ) (entry : Entry) → slice_get log i ≡ Some entry → IsAt (i + 1) entry

-- what a log keeps: how its entries are numbered, how many they are, and that with as many more as its room they are not too many
pub record IsLog (log : List Entry) (count room : ℕ) : Type 0 where
  pub numbered : IsNumbered log
  pub counted : length log ≡ count
  pub fits : count + room < 2 ^ 63

-- an entry's sequence number, and what it touches
abbrev pub entry_place : Entry → ℕ × Touched
entry_place entry = (entry.sequence, touched entry.footprint)
