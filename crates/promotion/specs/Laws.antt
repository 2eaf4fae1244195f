-- What readers of the old log and of the new one may count on.
use Rattle.std.specs.Prelude.{◌≡◌, ℕ, ◌+◌, ◌≤◌, List, ◌++◌, length, map, take, drop, Some}
use Rattle.schema.specs.declared.Table.{Table}
use Rattle.rows.specs.Database.{Database}
use Rattle.record_codec.specs.declared.records.Record.{Record}
use Rattle.store_trait.specs.Operation.{loaded}
use Rattle.record_codec.specs.Log.{after, IsLegalLog}
use Rattle.moved_numbers.specs.Moved.{behind}
use Rattle.gapped.specs.Gapped.{gapped}
use Rattle.replica_core.specs.Replica.{Replica, ran, rows_at}
use Rattle.replica_core.specs.Sound.{IsSound}
use Rattle.promotion.specs.Promotion.{HasNoGaps}

-- The rows behind the first so many records, which readers saw, lead to those behind all commits, by the committed records past them.
abbrev pub SeenLeadsOn : Type 0
SeenLeadsOn = (r : Replica) (seen : ℕ) (rows : Database) → seen ≤ length r.commits → rows_at r seen ≡ Some rows →
    after r.tables rows (drop seen (take (length r.commits) r.accepted)) ≡ rows_at r (length r.commits)

-- In whichever order the records were committed, what readers saw behind the first so many commits leads on by the others.
abbrev pub GappedLeadsOn : Type 0
GappedLeadsOn = (r : Replica) (seen : ℕ) (rows : Database) → IsSound r → HasNoGaps r → seen ≤ length r.commits → gapped r.tables (loaded r.base) r.accepted (take seen r.commits) ≡ Some rows →
    after r.tables rows (drop seen (ran r)) ≡ rows_at r (length r.commits)

-- ---- both logs as one

-- the old log, and the new one behind it, with its numbers moved
abbrev pub joined : List Record → List Record → List Record
joined old new = old ++ map (behind (length old)) new

-- Where the old log is legal, and the new one over the rows that the old one leaves, both as one are legal.
abbrev pub JoinedIsLegal : Type 0
JoinedIsLegal = (ts : List Table) (base mid : Database) (old new : List Record) → IsLegalLog ts base old → after ts base old ≡ Some mid → IsLegalLog ts mid new →
    IsLegalLog ts base (joined old new)

-- and what the first records of the new log leave is what as many more than the old one has leave of both
abbrev pub JoinedLeaves : Type 0
JoinedLeaves = (ts : List Table) (base mid : Database) (old new : List Record) (n : ℕ) → after ts base old ≡ Some mid →
    after ts base (take (length old + n) (joined old new)) ≡ after ts mid (take n new)
