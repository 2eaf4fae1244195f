-- Slots that hold a history: what they say, and what they keep.
use Rattle.std.specs.Prelude.{◌≡◌, ℕ, ◌<◌, ◌≤◌, Bool, true, false, not, ◌&&◌, ◌||◌, ◌==◌, nat_lt, nat_le, if◌then◌else◌, List, [], ◌∷◌, length, slice_index_or}
use Rattle.std.specs.FinMap.{empty, insert, len}
use Rattle.writeset_history.specs.declared.slots.Slot.{Slot}
use Rattle.writeset_history.specs.History.{Numbers, History}
use Rattle.writeset_history.specs.Probing.{home_of}

-- the slot is not free: its number is above the start
abbrev pub is_live : ℕ → Slot → Bool
is_live start slot = nat_lt start slot.sequence

-- the numbers of the digests in the slots that are not free
abbrev pub numbers_in : ℕ → List Slot → Numbers
numbers_in start [] = empty
numbers_in start (slot ∷ rest) =
    if is_live start slot then insert (numbers_in start rest) slot.digest slot.sequence else numbers_in start rest

-- the history that they hold
abbrev pub history_in : List Slot → ℕ → ℕ → History
history_in slots start limit = record { limit = limit; start = start; numbers = numbers_in start slots }

abbrev pub free_slot : Slot
free_slot = record { digest = 0; sequence = 0 }

-- the slot of this index; past the last a free one
abbrev pub slot_at : List Slot → ℕ → Slot
slot_at slots k = slice_index_or slots k free_slot

-- a probe for the digest can end at a slot that is free, and at the digest's own
abbrev pub is_end : ℕ → ℕ → Slot → Bool
is_end start digest slot = not (is_live start slot) || slot.digest == digest

-- A probe that begins at this home and ends at this place passes the slot: it goes up from its home, and behind the last slot on
-- from the first.
abbrev pub passes : ℕ → ℕ → ℕ → Bool
passes home place k = if nat_le home place then nat_le home k && nat_lt k place else nat_le home k || nat_lt k place

-- a probe for the digest ends at this place, the first on its way at which it can
pub record EndsAt (slots : List Slot) (start digest place : ℕ) : Type 0 where
  pub within : place < length slots
  pub ends : is_end start digest (slot_at slots place) ≡ true
  pub passed : (k : ℕ) → k < length slots → passes (home_of digest (length slots)) place k ≡ true → is_end start digest (slot_at slots k) ≡ false

-- a probe for the digest could not end anywhere
abbrev pub HasNoEnd : List Slot → ℕ → ℕ → Type 0
HasNoEnd slots start digest = (k : ℕ) → k < length slots → is_end start digest (slot_at slots k) ≡ false

-- The slots hold the history of this start and limit, which has so many digests: a probe for the digest of a slot that is not
-- free ends at this slot. So no two of them have one digest. There are more slots than the limit, so one is free.
pub record IsSound (slots : List Slot) (start limit count : ℕ) : Type 0 where
  pub within : count ≤ limit
  pub some_free : limit < length slots
  pub counted : count ≡ len (numbers_in start slots)
  pub found : (k : ℕ) → is_live start (slot_at slots k) ≡ true → EndsAt slots start (slot_at slots k).digest k
