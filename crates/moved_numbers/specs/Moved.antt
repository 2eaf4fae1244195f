-- A log that begins anew over the rows that n records of another log left: its records have numbers from 1 again. So a record has one number in the
-- log that begins anew, and another one in the whole log, which is those n records and then these.
use mathlib.Core.List.{IsPrefix}
use Rattle.std.specs.Prelude.{◌≡◌, ℕ, ◌+◌, ◌-◌, ◌<◌, ◌≤◌, ◌^◌, ◌↔◌, max, List, ◌++◌, length, map, take, Some, Ok}
use Rattle.schema.specs.declared.Table.{Table}
use Rattle.rows.specs.Database.{Database}
use Rattle.record_codec.specs.declared.records.Record.{Record}
use Rattle.record_codec.specs.Log.{after, IsLegalLog, AreShaped}
use Rattle.relay.specs.declared.Received.{Received}
use Rattle.relay.specs.Relay.{Relay, received, IsAcceptable, AreAcceptable}

-- ---- one record in two logs

-- The record of a whole log, in the one that begins after its first n records: n is taken off its gno, its sequence number and its parent. A
-- parent among those n becomes 0: what they did is in the rows that the log begins over.
abbrev pub ahead : ℕ → Record → Record
ahead n r = record r { gno = r.gno - n; sequence = r.sequence - n; parent = r.parent - n }

-- The other way: the record of a log, if n other records come before it. A parent of 0 becomes n, since the record may need any row that they left.
abbrev pub behind : ℕ → Record → Record
behind n r = record r { gno = n + r.gno; sequence = n + r.sequence; parent = n + r.parent }

-- The record that comes after n records of one log, as it comes after m records of another.
abbrev pub moved : ℕ → ℕ → Record → Record
moved n m r = behind m (ahead n r)

-- A log of three records has the stamps (1,0), (2,1) and (3,1). In the log that begins after two of them the third is `ahead 2`: (1,0). After five
-- records of another log it is `moved 2 5`: (6,5). Back in the first log, by `moved 5 2`, it is (3,2): its parent is 2 now, which covers all that 1 did.

-- A record that is moved behind n others and back is the same again. The other way round it is so but for a parent below n, which becomes n.
abbrev pub BackAgain : Type 0
BackAgain = (n : ℕ) (r : Record) → ahead n (behind n r) ≡ r

abbrev pub ParentAtLeast : Type 0
ParentAtLeast = (n : ℕ) (r : Record) → n ≤ r.gno → n ≤ r.sequence → behind n (ahead n r) ≡ record r { parent = max n r.parent }

-- A record that is moved into a second log, and from there into a third, is as if it had been moved once.
abbrev pub MovedTwice : Type 0
MovedTwice = (a b c d : ℕ) (r : Record) → c ≤ b → moved c d (moved a b r) ≡ moved a (d + b - c) r

-- No row depends on a number: moved records leave the same rows, and their changes are still of the tables.
abbrev pub MovedLeaves : Type 0
MovedLeaves = (ts : List Table) (db : Database) (n m : ℕ) (log : List Record) → after ts db (map (moved n m) log) ≡ after ts db log

abbrev pub MovedIsShaped : Type 0
MovedIsShaped = (ts : List Table) (n m : ℕ) (log : List Record) → AreShaped ts log → AreShaped ts (map (moved n m) log)

-- ---- legal logs

-- A legal log without its first n records is legal over the rows that these leave, with its numbers moved.
abbrev pub RestIsLegal : Type 0
RestIsLegal = (ts : List Table) (base mid : Database) (front rest : List Record) → IsLegalLog ts base (front ++ rest) → after ts base front ≡ Some mid →
    IsLegalLog ts mid (map (ahead (length front)) rest)

-- A log that is legal over the rows that a legal one leaves is legal after it, with its numbers moved.
abbrev pub BehindIsLegal : Type 0
BehindIsLegal = (ts : List Table) (base mid : Database) (front log : List Record) → IsLegalLog ts base front → after ts base front ≡ Some mid →
    IsLegalLog ts mid log → IsLegalLog ts base (front ++ map (behind (length front)) log)

-- What a log leaves over those rows is what it leaves after the other one, over the base of that.
abbrev pub BehindLeaves : Type 0
BehindLeaves = (ts : List Table) (base mid : Database) (front log : List Record) → after ts base front ≡ Some mid →
    after ts base (front ++ map (behind (length front)) log) ≡ after ts mid log

-- A replica that began over those rows has accepted the first of the records from n + 1 on. After u of them it has the rows that n + u records of the
-- whole log leave.
abbrev pub RestIsSeen : Type 0
RestIsSeen = (ts : List Table) (base mid : Database) (front rest accepted : List Record) (u : ℕ) → after ts base front ≡ Some mid →
    IsPrefix accepted (map (ahead (length front)) rest) → u ≤ length accepted →
    after ts mid (take u accepted) ≡ after ts base (take (length front + u) (front ++ rest))

-- ---- records that lie: what a relay accepts

-- An acceptable list without its first n records is acceptable, with its numbers moved.
abbrev pub RestIsAcceptable : Type 0
RestIsAcceptable = (ts : List Table) (front rest : List Record) → AreAcceptable ts (front ++ rest) → AreAcceptable ts (map (ahead (length front)) rest)

-- What may come after the whole list may come after the rest.
abbrev pub RestAccepts : Type 0
RestAccepts = (ts : List Table) (front rest : List Record) (new : Record) → IsAcceptable ts (front ++ rest) new →
    IsAcceptable ts (map (ahead (length front)) rest) (ahead (length front) new)

-- So a relay that has the rest returns the same as one that has the whole list, where that accepts or skips a record that is not among the first n.
abbrev pub RestReceives : Type 0
RestReceives = (r : Relay) (front rest : List Record) (from : List ℕ) (new : Record) (answer : Received) → r.accepted ≡ front ++ rest →
    length front < new.gno → received r from new ≡ Ok answer →
    received (record r { accepted = map (ahead (length front)) rest }) from (ahead (length front) new) ≡ Ok answer

-- The other way, as long as the numbers are below 2 ^ 63: an acceptable list is acceptable after another one, and so is what may come after it.
abbrev pub BehindIsAcceptable : Type 0
BehindIsAcceptable = (ts : List Table) (front log : List Record) → AreAcceptable ts front → AreAcceptable ts log → length front + length log < 2 ^ 63 →
    AreAcceptable ts (front ++ map (behind (length front)) log)

abbrev pub BehindAccepts : Type 0
BehindAccepts = (ts : List Table) (front log : List Record) (new : Record) → AreAcceptable ts front → IsAcceptable ts log new →
    length front + new.gno < 2 ^ 63 → IsAcceptable ts (front ++ map (behind (length front)) log) (behind (length front) new)

-- ---- epochs

-- Two legal logs over their bases that leave the same rows: the first records of a log, and a snapshot, which is a log that inserts what they left.
pub record LeaveAlike (ts : List Table) (base : Database) (front : List Record) (other : Database) (snap : List Record) : Type 0 where
  pub front_is : IsLegalLog ts base front
  pub snap_is : IsLegalLog ts other snap
  pub mid : Database
  pub front_leaves : after ts base front ≡ Some mid
  pub snap_leaves : after ts other snap ≡ Some mid

-- Records that come next, given with numbers from 1, make a legal log after the one exactly if they do after the other, and leave the same rows.
pub record Agree (ts : List Table) (base : Database) (front : List Record) (other : Database) (snap next : List Record) : Type 0 where
  pub legal : IsLegalLog ts base (front ++ map (behind (length front)) next) ↔ IsLegalLog ts other (snap ++ map (behind (length snap)) next)
  pub leaves : after ts base (front ++ map (behind (length front)) next) ≡ after ts other (snap ++ map (behind (length snap)) next)

abbrev pub EpochsAgree : Type 0
EpochsAgree = (ts : List Table) (base other : Database) (front snap next : List Record) → LeaveAlike ts base front other snap →
    Agree ts base front other snap next

-- A legal log that continues from a snapshot stands for a whole log: the first records and then, moved, those after the snapshot. The whole log is
-- legal too, and after u of the moved records both leave the same rows. `LeaveAlike` can be read in both directions, and so can this: what comes after
-- the first records of a whole log may be moved behind a snapshot.
pub record MakesWhole (ts : List Table) (base : Database) (front : List Record) (other : Database) (snap next : List Record) : Type 0 where
  pub legal : IsLegalLog ts base (front ++ map (moved (length snap) (length front)) next)
  pub leaves : (u : ℕ) → after ts other (take (length snap + u) (snap ++ next)) ≡
      after ts base (take (length front + u) (front ++ map (moved (length snap) (length front)) next))

abbrev pub EpochGoesOn : Type 0
EpochGoesOn = (ts : List Table) (base other : Database) (front snap next : List Record) → LeaveAlike ts base front other snap →
    IsLegalLog ts other (snap ++ next) → MakesWhole ts base front other snap next
