-- What the history of write sets says of a log. Entries are listed here with the newest first.
use Rattle.std.specs.Prelude.{◌≡◌, ℕ, ◌+◌, false, ◌==◌, if◌then◌else◌, List, [], ◌∷◌, length, Option, Some, None}
use Rattle.std.specs.FinMap.{get}
use Rattle.schema.specs.declared.Table.{Table}
use Rattle.log_index.specs.declared.Entry.{Entry}
use Rattle.tracker_trait.specs.History.{start_of, newest_of}
use Rattle.writeset_history.specs.History.{History}

-- The entry is numbered by its place. It refers to rows only where it is foreign-key related.
pub record IsLogged (place : ℕ) (entry : Entry) : Type 0 where
  pub number : entry.sequence ≡ place
  pub refs : entry.footprint.flags.fk ≡ false → entry.footprint.refs ≡ []

-- of these entries the oldest has place 1
abbrev pub AreLogged : List Entry → Type 0
AreLogged [] = Unit {0}
AreLogged (last ∷ older) = IsLogged (length older + 1) last × AreLogged older

-- the number of an entry; 0 is none
abbrev pub entry_number : ℕ → Option ℕ
entry_number number = if number == 0 then None else Some number

-- The history starts where that of these entries does, and has just the digests that an entry above the start has, each with the
-- number of the last such entry.
pub record IsHistoryOf (ts : List Table) (newest_first : List Entry) (h : History) : Type 0 where
  pub logged : AreLogged newest_first
  pub start : h.start ≡ start_of ts h.limit newest_first
  pub numbers : (digest : ℕ) → get h.numbers digest ≡ entry_number (newest_of ts h.start newest_first digest)
