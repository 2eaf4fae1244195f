-- What a relay is seen as, and which records it accepts.
use Rattle.std.specs.Prelude.{◌≡◌, ℕ, ◌+◌, ◌<◌, ◌≤◌, ◌^◌, max, Bool, true, not, ◌&&◌, ◌||◌, ◌==◌, nat_le, nat_lt, if◌then◌else◌, List, [], ◌∷◌, ◌++◌, length, map, Result, Ok, Err}
use Rattle.std.specs.List.{list_all}
use Rattle.std.specs.Str.{bytes_eq}
use Rattle.schema.specs.declared.Table.{Table}
use Rattle.schema.specs.Rows.{conflicts}
use Rattle.schema.specs.Covering.{Covers}
use Rattle.rows.specs.Shape.{is_shaped}
use Rattle.record_codec.specs.declared.records.Record.{Record}
use Rattle.record_codec.specs.Log.{touched, place_of}
use Rattle.relay.specs.Form.{has_flags, are_parents, has_ref, are_unique, states_given}
use Rattle.relay.specs.declared.ReplicaFault.{ReplicaFault}
use Rattle.relay.specs.declared.ReplicaFault.TheVariants.{Gap, ForeignSource, Malformed, BadParent}
use Rattle.relay.specs.declared.Received.{Received}
use Rattle.relay.specs.declared.Received.TheVariants.{Accepted, Skipped}

pub record Relay : Type 0 where
  pub tables : List Table
  -- the identifier of the source whose records it takes
  pub source : List ℕ
  -- the records accepted, in order
  pub accepted : List Record
  -- how many of the first of them are not kept any more
  pub gone : ℕ

-- Whether a source of these tables may write such changes, flags, refs and marks, whatever the rows are: each change is of a
-- table, and of columns that the table has; the flags are those of the tables that the changes write; each ref is of a table
-- that is a parent; each parent row that a change gives its row, as an insert into a child table does and an update that names
-- the parent column, is among the refs; each mark is of a table with a unique column; and each mark that a change gives its row, as
-- an insert into such a table does and an update that names the unique column, is among the marks.
abbrev pub is_formed : List Table → Record → Bool
is_formed ts new =
    list_all (is_shaped ts) new.changes && has_flags ts new && are_parents ts new.refs && list_all (has_ref ts new.refs) new.changes
    && are_unique ts new.marks && list_all (states_given ts new.marks) new.changes

-- A record that no source of these tables writes, whatever is before it: its number is 0 or past the last one there can be;
-- its sequence number is another, or not above its parent; or its changes, flags, refs and marks are none that these tables
-- allow.
abbrev pub is_malformed : List Table → Record → Bool
is_malformed ts new =
    not (nat_le 1 new.gno && nat_lt new.gno (2 ^ 63)) || not (new.sequence == new.gno) || not (nat_lt new.parent new.sequence)
    || not (is_formed ts new)

-- whether each of these records that conflicts with the new one is numbered at most its parent
abbrev pub is_covered : List Record → Record → Bool
is_covered log new = list_all (λ before. nat_le before.sequence new.parent || not (conflicts (touched before) (touched new))) log

-- The next record is accepted, and one that was accepted before is skipped. What refuses a record, in order: another
-- source, its form, a number past the next, and a parent that does not cover what was accepted.
abbrev pub received : Relay → List ℕ → Record → Result Received ReplicaFault
received r from new =
    if not (bytes_eq from r.source) then Err ForeignSource
    else if is_malformed r.tables new then Err Malformed
    else if nat_le new.gno (length r.accepted) then Ok Skipped
    else if not (new.gno == length r.accepted + 1) then Err Gap
    else if not (is_covered r.accepted new) then Err BadParent
    else Ok Accepted

abbrev pub with_accepted : Relay → Record → Relay
with_accepted r new = record r { accepted = r.accepted ++ new ∷ [] }

-- what each answer leaves
abbrev pub left_by_receive : Relay → Record → Received → Relay
left_by_receive r new Accepted = with_accepted r new
left_by_receive r new Skipped = r

-- Nothing changes but for what is kept: of the first records at most so many more are gone.
pub record LetsGo (upto : ℕ) (old new : Relay) : Type 0 where
  pub tables : new.tables ≡ old.tables
  pub source : new.source ≡ old.source
  pub accepted : new.accepted ≡ old.accepted
  pub within : new.gone ≤ max old.gone upto

-- A record that may stand behind these: the next number, as gno and as sequence number; a parent below it that covers them;
-- each change of a table, and of columns that the table has; the flags of the tables that they write; refs to rows of parent
-- tables alone, and among them each parent row that a change gives its row; marks of tables with a unique column alone, and
-- among them each mark that a change gives its row.
pub record IsAcceptable (ts : List Table) (log : List Record) (new : Record) : Type 0 where
  pub gno : new.gno ≡ length log + 1
  pub sequence : new.sequence ≡ length log + 1
  pub bound : new.gno < 2 ^ 63
  pub below : new.parent < new.sequence
  pub covers : Covers (map place_of log) (touched new) new.parent
  pub shaped : list_all (is_shaped ts) new.changes ≡ true
  pub flags : has_flags ts new ≡ true
  pub parents : are_parents ts new.refs ≡ true
  pub refs : list_all (has_ref ts new.refs) new.changes ≡ true
  pub unique : are_unique ts new.marks ≡ true
  pub marks : list_all (states_given ts new.marks) new.changes ≡ true

-- each of the records may stand behind those before it
abbrev pub AreAcceptable : List Table → List Record → Type 0
AreAcceptable ts log = (front : List Record) (new : Record) (rest : List Record) → log ≡ front ++ new ∷ rest → IsAcceptable ts front new
