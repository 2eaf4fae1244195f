-- What is answered to a record; what a piece of a wire's bytes does to what lies under the lock, and to the wire; and what is told of a
-- stop to one who waits for a set of ids.
use Rattle.std.specs.Prelude.{◌≡◌, ◌⊎◌, ℕ, ◌<◌, ◌≤◌, ◌||◌, nat_lt, Bool, true, false, Option, None, Some, List, [], ◌++◌, length, Result, Ok, Err, IsOk, IsErrOf, MatchResult}
use Rattle.std.specs.List.{AllByRecursion}
use Rattle.gtid_set.specs.Ids.{Ids}
use Rattle.gtid_set.specs.Numbers.{has_number}
use Rattle.scheduler.specs.Gnos.{has_gno}
use Rattle.published.specs.History.{gnos_of, commits_in}
use Rattle.relay.specs.declared.ReplicaFault.{ReplicaFault}
use Rattle.relay.specs.declared.ReplicaFault.TheVariants as faults
use Rattle.relay.specs.declared.Received.{Received}
use Rattle.relay.specs.declared.Received.TheVariants.{Accepted}
use Rattle.record_codec.specs.declared.records.Record.{Record}
use Rattle.record_codec.specs.Version.{current}
use Rattle.record_stream.specs.Stream.{Splits}
use Rattle.replica_core.specs.Replica.{Replica}
use Rattle.replica_core.specs.Calls.{received}
use Rattle.replica_core.specs.Wire.{Wire, Hands, Gathers, Takes, piece_taken}
use Rattle.replica_core.specs.declared.wire.WireFault.{WireFault}
use Rattle.replica_core.specs.declared.wire.WireFault.TheVariants as wire
use Rattle.replica_shared.specs.Names.{ReplicaNames, IsReplicaOf, IsInLog}
use Rattle.replica_shared.specs.Together.{State, Settles, IsCaughtUp, IsStopOf}

-- What is answered to a record: what the core's `receive` answers over a core of this replica, or that memory ran out in the place
-- of an acceptance.
pub record Receives (names : ReplicaNames) (preserve : Bool) (from : List ℕ) (new : Record) (answer : Result Received ReplicaFault) : Type 0 where
  pub before : Replica
  pub named : IsReplicaOf names preserve before
  pub told : IsErrOf answer faults.Memory ⊎ (answer ≡ received before from new)
  pub memory : IsErrOf answer faults.Memory → received before from new ≡ Ok Accepted

-- what a wire's `take` over the core leaves: where more is accepted, something may be left to do
abbrev pub left_by_take : State → Replica → State
left_by_take s core = record s { core = core; behind = s.behind || nat_lt (length s.core.accepted) (length core.accepted) }

-- all is done that can be, or memory ran out
abbrev pub SettlesOrLacks : State → Result (Unit {0}) ReplicaFault → State → Type 0
SettlesOrLacks s result then = Settles s then × MatchResult result (λ done. IsCaughtUp then.core then.outlet) (λ fault. (fault ≡ faults.Memory) × (then.behind ≡ true))

-- What is told of a piece: what the wire's `take` answers, and, where that is Ok, the fault of what was to be done behind it. That
-- is told as one of the piece's records, since the piece is taken.
abbrev pub told_behind : Result ℕ WireFault → Result (Unit {0}) ReplicaFault → Result ℕ WireFault
told_behind (Err fault) settled = Err fault
told_behind (Ok count) (Ok done) = Ok count
told_behind (Ok count) (Err fault) = Err (wire.Replica fault)

-- The wire and the core are as the wire's `take` leaves them. Where it accepted records, all is done then that can be; where it
-- accepted none, nothing more.
pub record TakesAndSettles (s : State) (old : Wire) (piece : List ℕ) (answer : Result ℕ WireFault) (new : Wire) (then : State) : Type 0 where
  pub core : Replica
  pub taken : Result ℕ WireFault
  pub takes : Takes old s.core piece taken new core
  pub settled : Result (Unit {0}) ReplicaFault
  pub some : length s.core.accepted < length core.accepted → SettlesOrLacks (left_by_take s core) settled then
  pub none : length core.accepted ≤ length s.core.accepted → (settled ≡ Ok tt) × (then ≡ s)
  pub told : answer ≡ told_behind taken settled

-- the records that wait at the wire are handed on, and one that is refused is told as a record of the piece
abbrev pub HandsAs : Wire → Replica → Result ℕ WireFault → Wire → Replica → Type 0
HandsAs old r (Ok count) new then = Hands old r (Ok count) new then
HandsAs old r (Err (wire.Replica fault)) new then = Hands old r (Err fault) new then
HandsAs old r (Err (wire.Codec fault)) new then = ⊥
HandsAs old r (Err (wire.Waiting fault)) new then = ⊥

-- The same of a wire that gathered a piece: whatever it was before, if no record waited then.
abbrev pub HandsAndSettles : State → Wire → Result ℕ WireFault → Wire → State → Type 0
HandsAndSettles s full answer new then = (old : Wire) (piece : List ℕ) → old.waiting ≡ [] → Gathers old piece full → TakesAndSettles s old piece answer new then

-- What a piece does to the wire: what the wire's `take` does over a core of this replica. Its own answer is told, or, where that
-- is Ok, that memory ran out. Either way so much of the piece is taken as the answer says.
pub record Feeds (names : ReplicaNames) (preserve : Bool) (old : Wire) (piece : List ℕ) (answer : Result ℕ WireFault) (new : Wire) : Type 0 where
  pub before : Replica
  pub named : IsReplicaOf names preserve before
  pub core : Replica
  pub taken : Result ℕ WireFault
  pub takes : Takes old before piece taken new core
  pub told : (answer ≡ taken) ⊎ (IsOk taken × (answer ≡ Err (wire.Replica faults.Memory)))
  pub bytes : piece_taken answer piece ≡ piece_taken taken piece

-- ---- a log that is known before

-- each of these records has its place in the log, if that is known
abbrev pub AreEachInLog : Option (List Record) → List Record → Type 0
AreEachInLog None records = Unit {0}
AreEachInLog (Some log) records = AllByRecursion (IsInLog (Some log)) records

-- each record that waits at the wire has, and each that is whole with the piece
abbrev pub AreInLog : Option (List Record) → Wire → List ℕ → Type 0
AreInLog None wire piece = Unit {0}
AreInLog (Some log) wire piece =
    AllByRecursion (IsInLog (Some log)) wire.waiting
    × ((added : List Record) (rest : List ℕ) → Splits current (wire.rest ++ piece) added rest → AllByRecursion (IsInLog (Some log)) added)

-- ---- sets of ids

-- a stop is told, and the commit of an id of the set is not published; in the order of the log fewer are than its number
pub record TellsStopOf (names : ReplicaNames) (preserve : Bool) (ids : Ids) (fault : ReplicaFault) : Type 0 where
  pub state : State
  pub stop : IsStopOf names preserve state fault
  pub gno : ℕ
  pub has : has_number ids.numbers gno ≡ true
  pub behind : has_gno (gnos_of state.publication.published) gno ≡ false
  pub in_order : preserve ≡ true → commits_in state.publication.published < gno
