-- What a history says of the next transaction, and how it goes on behind it.
use Rattle.std.specs.Prelude.{ℕ, ◌+◌, Bool, ◌||◌, nat_lt, if◌then◌else◌, List, length, map, min}
use Rattle.std.specs.FinMap.{len}
use Rattle.log_index.specs.declared.Footprint.{Footprint}
use Rattle.tracker_trait.specs.Parent.{greatest}
use Rattle.writeset_history.specs.History.{History, number_of, entered, emptied}

-- the last number that had one of the digests, and at least the start
abbrev pub last_number : History → List ℕ → ℕ
last_number h digests = greatest h.start (map (number_of h) digests)

-- The order parent for a transaction that is foreign-key related or misses a key; else no later than the last number that had
-- one of its digests.
abbrev pub parent_by : History → Footprint → List ℕ → ℕ → ℕ
parent_by h t digests order = if t.flags.fk || t.flags.missing_keys then order else min order (last_number h digests)

-- Whether the transaction empties the history: it is foreign-key related, or its digests, beside those that are there, are over the
-- limit.
abbrev pub empties : History → Footprint → List ℕ → Bool
empties h t digests = t.flags.fk || nat_lt h.limit (len h.numbers + length digests)

-- the history behind the transaction, which has this number
abbrev pub noted : History → Footprint → List ℕ → ℕ → History
noted h t digests sequence = if empties h t digests then emptied h sequence else entered h digests sequence
