-- What follows from the definitions of what is accepted.
use Rattle.std.specs.Prelude.{◌≡◌, ◌↔◌, ℕ, ◌+◌, ◌<◌, ◌≤◌, ◌^◌, ◌==◌, nat_le, if◌then◌else◌, IsTrue, List, [], ◌∷◌, ◌++◌, length, map, take, slice_get, Some, Ok, Err}
use Rattle.schema.specs.declared.Table.{Table}
use Rattle.schema.specs.Covering.{Covers}
use Rattle.rows.specs.Database.{Database}
use Rattle.rows.specs.Given.{StatesGiven}
use Rattle.record_codec.specs.declared.records.Record.{Record}
use Rattle.record_codec.specs.Log.{touched, place_of, IsLegalLog, AreShaped}
use Rattle.record_codec.specs.LogLaws.{IsNumber}
use Rattle.relay.specs.declared.ReplicaFault.TheVariants.{Gap}
use Rattle.relay.specs.declared.Received.TheVariants.{Accepted, Skipped}
use Rattle.relay.specs.Relay.{Relay, is_covered, received, IsAcceptable, AreAcceptable}

-- a record is covered exactly where its parent covers what it touches
abbrev pub CoveredByParent : Type 0
CoveredByParent = (log : List Record) (new : Record) → IsTrue (is_covered log new) ↔ Covers (map place_of log) (touched new) new.parent

-- a record is accepted exactly where it is of the relay's source, and may stand behind the records accepted
abbrev pub AcceptsTheAcceptable : Type 0
AcceptsTheAcceptable = (r : Relay) (from : List ℕ) (new : Record) → (received r from new ≡ Ok Accepted) ↔ ((from ≡ r.source) × IsAcceptable r.tables r.accepted new)

-- no records are acceptable, and so are acceptable ones with one more behind them, and each beginning of acceptable ones
abbrev pub EmptyIsAcceptable : Type 0
EmptyIsAcceptable = (ts : List Table) → AreAcceptable ts []

abbrev pub NextIsAcceptable : Type 0
NextIsAcceptable = (ts : List Table) (log : List Record) (next : Record) → AreAcceptable ts log → IsAcceptable ts log next → AreAcceptable ts (log ++ next ∷ [])

abbrev pub BeginningIsAcceptable : Type 0
BeginningIsAcceptable = (ts : List Table) (front rest : List Record) → AreAcceptable ts (front ++ rest) → AreAcceptable ts front

-- acceptable records are numbered from 1 on
abbrev pub PlaceIsNumber : Type 0
PlaceIsNumber = (ts : List Table) (log : List Record) (n : ℕ) (r : Record) → AreAcceptable ts log → slice_get log n ≡ Some r → IsNumber r (n + 1)

-- an acceptable record states what its changes give their rows: each parent among its refs, and each mark among its marks
abbrev pub AcceptableStatesGiven : Type 0
AcceptableStatesGiven = (ts : List Table) (log : List Record) (new : Record) → IsAcceptable ts log new → StatesGiven ts new.changes new.refs new.marks

-- a legal log that is shaped is acceptable, where its numbers are below 2 ^ 63
abbrev pub LegalIsAcceptable : Type 0
LegalIsAcceptable = (ts : List Table) (base : Database) (log : List Record) → IsLegalLog ts base log → AreShaped ts log → length log < 2 ^ 63 → AreAcceptable ts log

-- Of such a log a relay that accepted the first n records, and keeps them or not, accepts the next, skips those before and takes no other.
abbrev pub ReceivesOfLog : Type 0
ReceivesOfLog = (ts : List Table) (base : Database) (source : List ℕ) (log : List Record) (n gone place : ℕ) (new : Record) →
    IsLegalLog ts base log → AreShaped ts log → length log < 2 ^ 63 → n ≤ length log → slice_get log place ≡ Some new →
    received (record { tables = ts; source = source; accepted = take n log; gone = gone }) source new
    ≡ (if nat_le new.gno n then Ok Skipped else if new.gno == n + 1 then Ok Accepted else Err Gap)
