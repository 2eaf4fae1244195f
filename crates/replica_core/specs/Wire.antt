-- Bytes of a log that come in pieces, in the form that sources write, and what becomes of their records.
use Rattle.std.specs.Prelude.{◌≡◌, ◌⊎◌, ℕ, ◌≤◌, List, [], ◌∷◌, ◌++◌, length, None, Result, Ok, Err, IsOk}
use Rattle.record_codec.specs.declared.fault.CodecFault.{CodecFault}
use Rattle.record_codec.specs.declared.fault.CodecFault.TheVariants as codec
use Rattle.record_codec.specs.declared.records.Record.{Record}
use Rattle.record_codec.specs.Version.{current}
use Rattle.record_stream.specs.Stream.{Adds, Splits, Stops}
use Rattle.relay.specs.declared.ReplicaFault.{ReplicaFault}
use Rattle.relay.specs.declared.ReplicaFault.TheVariants.{Memory}
use Rattle.relay.specs.declared.Received.{Received}
use Rattle.relay.specs.declared.Received.TheVariants.{Accepted}
use Rattle.replica_core.specs.Replica.{Replica}
use Rattle.replica_core.specs.Calls.{relay_of, received, left_by_receive}
use Rattle.replica_core.specs.declared.wire.WireFault.{WireFault}
use Rattle.replica_core.specs.declared.wire.WireFault.TheVariants as wire

-- What a wire is seen as.
pub record Wire : Type 0 where
  -- the identifier of the source whose records come over it
  pub source : List ℕ
  -- the records that are whole and were not taken, in order
  pub waiting : List Record
  -- the bytes of the record that is still coming
  pub rest : List ℕ

-- no byte has come
abbrev pub new_wire : List ℕ → Wire
new_wire source = record { source = source; waiting = []; rest = [] }

-- the replica once a record was handed to it: a refused one leaves it as it was
abbrev pub left_by_answer : Replica → Record → Result Received ReplicaFault → Replica
left_by_answer r new (Ok answer) = left_by_receive r new answer
left_by_answer r new (Err fault) = r

-- the replica once these records were handed to it, one after another, each as `receive` answers it
abbrev pub handed : List ℕ → Replica → List Record → Replica
handed from r [] = r
handed from r (next ∷ records) = handed from (left_by_answer r next (received r from next)) records

-- each of them is accepted or skipped, none refused
abbrev pub AreTaken : List ℕ → Replica → List Record → Type 0
AreTaken from r [] = Unit {0}
AreTaken from r (next ∷ records) = IsOk (received r from next) × AreTaken from (left_by_answer r next (received r from next)) records

-- a record is refused so: as `receive` does, or for want of memory in the place of an acceptance
abbrev pub IsRefused : List ℕ → Replica → Record → ReplicaFault → Type 0
IsRefused from r next fault = (received r from next ≡ Err fault) ⊎ ((fault ≡ Memory) × (received r from next ≡ Ok Accepted))

-- the first of the records is
abbrev pub IsFirstRefused : List ℕ → Replica → List Record → ReplicaFault → Type 0
IsFirstRefused from r [] fault = ⊥
IsFirstRefused from r (next ∷ records) fault = IsRefused from r next fault

-- all of these records are handed on, and taken
pub record HandsAll (from : List ℕ) (r : Replica) (records : List Record) (then : Replica) : Type 0 where
  pub taken : AreTaken from r records
  pub left : then ≡ handed from r records

-- those up to one that is refused so are; that one and those behind it wait
pub record HandsSome (from : List ℕ) (r : Replica) (records waiting : List Record) (fault : ReplicaFault) (then : Replica) : Type 0 where
  pub gone : List Record
  pub split : records ≡ gone ++ waiting
  pub hands : HandsAll from r gone then
  pub refused : IsFirstRefused from then waiting fault

-- all of them are handed on and counted, or those up to one that is refused
abbrev pub HandsOn : List ℕ → Replica → List Record → Result ℕ ReplicaFault → List Record → Replica → Type 0
HandsOn from r records (Ok count) waiting then = HandsAll from r records then × (count ≡ length records) × (waiting ≡ [])
HandsOn from r records (Err fault) waiting then = HandsSome from r records waiting fault then

-- ---- what a wire does with a piece

-- The records that wait are handed on, all or up to one that is refused. The rest stays.
pub record Hands (old : Wire) (r : Replica) (answer : Result ℕ ReplicaFault) (new : Wire) (then : Replica) : Type 0 where
  pub source : new.source ≡ old.source
  pub is : HandsOn old.source r old.waiting answer new.waiting then
  pub rest : new.rest ≡ old.rest

-- The records that the rest and the piece are, as many as are whole now, wait behind those that do, up to a new rest.
pub record Gathers (old : Wire) (piece : List ℕ) (new : Wire) : Type 0 where
  pub source : new.source ≡ old.source
  pub adds : Adds current (old.rest ++ piece) old.waiting new.waiting new.rest

-- why nothing of a piece is taken: a fault behind whole records, or want of memory
abbrev pub IsCodecCause : Wire → List ℕ → CodecFault → Type 0
IsCodecCause old piece fault = (fault ≡ codec.Memory) ⊎ Stops current (old.rest ++ piece) fault

-- The records that waited are handed on; then those that the rest and the piece are, as many as are whole now, up to a new
-- rest.
pub record TakesAll (old : Wire) (r : Replica) (piece : List ℕ) (count : ℕ) (new : Wire) (then : Replica) : Type 0 where
  pub added : List Record
  pub splits : Splits current (old.rest ++ piece) added new.rest
  pub hands : HandsAll old.source r (old.waiting ++ added) then
  pub number : count ≡ length (old.waiting ++ added)
  pub none : new.waiting ≡ []

-- The piece is taken, and one of its records is refused: that and those behind it wait.
pub record TakesSome (old : Wire) (r : Replica) (piece : List ℕ) (fault : ReplicaFault) (new : Wire) (then : Replica) : Type 0 where
  pub added : List Record
  pub splits : Splits current (old.rest ++ piece) added new.rest
  pub hands : HandsSome old.source r (old.waiting ++ added) new.waiting fault then
  pub behind : length new.waiting ≤ length added

-- Nothing of the piece is taken, for a fault behind whole records, or for want of memory. The records that waited are handed on.
pub record TakesNone (old : Wire) (r : Replica) (piece : List ℕ) (fault : CodecFault) (new : Wire) (then : Replica) : Type 0 where
  pub cause : IsCodecCause old piece fault
  pub hands : HandsAll old.source r old.waiting then
  pub none : new.waiting ≡ []
  pub rest : new.rest ≡ old.rest

-- Nothing of the piece is taken, since a record that waited is refused again: that and those behind it wait on.
pub record WaitsOn (old : Wire) (r : Replica) (fault : ReplicaFault) (new : Wire) (then : Replica) : Type 0 where
  pub hands : HandsSome old.source r old.waiting new.waiting fault then
  pub rest : new.rest ≡ old.rest

-- by what is answered
abbrev pub TakesAs : Wire → Replica → List ℕ → Result ℕ WireFault → Wire → Replica → Type 0
TakesAs old r piece (Ok count) new then = TakesAll old r piece count new then
TakesAs old r piece (Err (wire.Replica fault)) new then = TakesSome old r piece fault new then
TakesAs old r piece (Err (wire.Codec fault)) new then = TakesNone old r piece fault new then
TakesAs old r piece (Err (wire.Waiting fault)) new then = WaitsOn old r fault new then

pub record Takes (old : Wire) (r : Replica) (piece : List ℕ) (answer : Result ℕ WireFault) (new : Wire) (then : Replica) : Type 0 where
  pub source : new.source ≡ old.source
  pub is : TakesAs old r piece answer new then

-- ---- what becomes of all that came

-- What became of all bytes that a wire took, from the first on: they are the spellings of the records that were handed on, of
-- those that wait, and the rest. The replica has accepted those records for which `receive` answers so, one after another,
-- behind what it had accepted at the start, whatever else it did meanwhile.
pub record HasTaken (start : Replica) (bytes : List ℕ) (wire : Wire) (now : Replica) : Type 0 where
  pub gone : List Record
  pub splits : Splits current bytes (gone ++ wire.waiting) wire.rest
  pub taken : AreTaken wire.source start gone
  pub accepted : relay_of now ≡ relay_of (handed wire.source start gone)
  pub runs : start.stopped ≡ None

-- what a call took of the piece
abbrev pub piece_taken : Result ℕ WireFault → List ℕ → List ℕ
piece_taken (Ok count) piece = piece
piece_taken (Err (wire.Replica fault)) piece = piece
piece_taken (Err (wire.Codec fault)) piece = []
piece_taken (Err (wire.Waiting fault)) piece = []

-- nothing came over a new wire
abbrev pub NothingTaken : Type 0
NothingTaken = (start : Replica) (source : List ℕ) → start.stopped ≡ None → HasTaken start [] (new_wire source) start

-- and then each piece that is taken comes behind the bytes before it
abbrev pub TakesOn : Type 0
TakesOn = (start now then : Replica) (bytes piece : List ℕ) (old new : Wire) (answer : Result ℕ WireFault) →
    HasTaken start bytes old now → Takes old now piece answer new then → HasTaken start (bytes ++ piece_taken answer piece) new then
