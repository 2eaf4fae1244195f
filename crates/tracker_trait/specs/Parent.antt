-- The parent that a transaction gets, by mode.
use Rattle.std.specs.Prelude.{ℕ, ◌||◌, if◌then◌else◌, List, [], ◌∷◌, map, max, min}
use Rattle.std.proofs.Common.{reverse}
use Rattle.schema.specs.declared.Table.{Table}
use Rattle.log_index.specs.declared.Entry.{Entry}
use Rattle.log_index.specs.declared.Footprint.{Footprint}
use Rattle.write_set.specs.Digest.{digests_of}
use Rattle.tracker_trait.specs.declared.Tracking.TheVariants.{CommitOrder, Writeset, WritesetSession}
use Rattle.tracker_trait.specs.Kind.{Kind}
use Rattle.tracker_trait.specs.History.{start_of, newest_of, last_of}

-- the greatest of the numbers and of one more
abbrev pub greatest : ℕ → List ℕ → ℕ
greatest least [] = least
greatest least (n ∷ ns) = max n (greatest least ns)

-- the last entry that has one of these digests, and at least where the history starts
abbrev pub last_touch : List Table → ℕ → List Entry → List ℕ → ℕ
last_touch ts limit newest_first digests =
    let start = start_of ts limit newest_first in greatest start (map (newest_of ts start newest_first) digests)

-- The order parent for a transaction that is foreign-key related or misses a key; else no later than the last entry
-- that has one of its digests.
abbrev pub writeset_parent : List Table → ℕ → List Entry → Footprint → ℕ → ℕ
writeset_parent ts limit newest_first t order =
    if t.flags.fk || t.flags.missing_keys then order else min order (last_touch ts limit newest_first (digests_of ts t))

-- The parent of a transaction of this session behind this log, where its order parent is the one given: what MySQL writes in its
-- log as `last_committed`.
abbrev pub dependency_of : Kind → List Table → List Entry → Footprint → ℕ → ℕ → ℕ
dependency_of kind ts log t session order = elim kind.mode [
  | CommitOrder ↦ order
  | Writeset ↦ writeset_parent ts kind.limit (reverse log) t order
  | WritesetSession ↦ max (writeset_parent ts kind.limit (reverse log) t order) (last_of (reverse log) session)
]
