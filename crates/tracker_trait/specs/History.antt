-- What the written rows and the marks of a log say of the next transaction. Entries are listed here with the newest first.
use Rattle.std.specs.Prelude.{ℕ, ◌+◌, ◌==◌, ◌||◌, nat_lt, ◌&&◌, if◌then◌else◌, List, [], ◌∷◌, length, filter}
use Rattle.std.specs.List.{flat_map, list_any}
use Rattle.schema.specs.declared.Table.{Table}
use Rattle.log_index.specs.declared.Entry.{Entry}
use Rattle.write_set.specs.Digest.{digests_of, rising}

-- the digests of an entry's footprint
abbrev pub digests_in : List Table → Entry → List ℕ
digests_in ts entry = digests_of ts entry.footprint

-- the entries that are numbered above this
abbrev pub above : ℕ → List Entry → List Entry
above number entries = filter (λ entry. nat_lt number entry.sequence) entries

-- how many digests the entries that are numbered above this have, each counted once
abbrev pub digest_count : List Table → ℕ → List Entry → ℕ
digest_count ts number entries = length (rising (flat_map (digests_in ts) (above number entries)))

-- Where the history starts: at the last transaction that emptied it, and at 0 where none did. A transaction empties it
-- that is foreign-key related, or whose digests, beside those that the history has, are over the limit.
abbrev pub start_of : List Table → ℕ → List Entry → ℕ
start_of ts limit [] = 0
start_of ts limit (last ∷ older) =
    if last.footprint.flags.fk || nat_lt limit (digest_count ts (start_of ts limit older) older + length (digests_in ts last)) then last.sequence
    else start_of ts limit older

-- the last of the entries numbered above this that has the digest; 0 where none has
abbrev pub newest_of : List Table → ℕ → List Entry → ℕ → ℕ
newest_of ts number [] digest = 0
newest_of ts number (last ∷ older) digest =
    if nat_lt number last.sequence && list_any (λ d. d == digest) (digests_in ts last) then last.sequence else newest_of ts number older digest

-- the last entry of the session; 0 where it has none
abbrev pub last_of : List Entry → ℕ → ℕ
last_of [] session = 0
last_of (last ∷ older) session = if last.session == session then last.sequence else last_of older session
