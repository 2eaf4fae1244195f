-- The records that a wire hands on are those of its log.
use mathlib.Core.List.{IsPrefix}
use Rattle.std.proofs.Common.{◌≡◌, ◌∙◌, sym, ap, subst, refl, ℕ, zero, suc, ◌+◌, ◌-◌, ◌≤◌, Bool, true, false, eqb, cond, List, [], ◌∷◌, ◌++◌, length, append-nil, append_assoc, length-append, arith}
use Rattle.std.proofs.Common.{Option, Some, None, IfSome, Result, Ok, Err}
use Rattle.std.specs.Io.KnownBytes.{Consumes, IsAtEnd}
use Rattle.std.specs.List.{flat_map, AllByRecursion, slice_get}
use Rattle.std.proofs.lemmas.Bool.{and_parts, eqb-true}
use Rattle.record_codec.specs.declared.records.Record.{Record}
use Rattle.record_codec.specs.Group.{AreNumbered}
use Rattle.record_codec.specs.Reading.{record_at}
use Rattle.record_codec.specs.Spelling.{spelling}
use Rattle.record_codec.specs.Version.{current}
use Rattle.record_codec.proofs.Lengths.{length-spelling}
use Rattle.record_codec.proofs.RecordFields.{record_again}
use Rattle.record_stream.specs.Stream.{AreFirst, Splits}
use Rattle.record_stream.proofs.Whole.{first-append, partial_none}
use Rattle.gapped.proofs.Choosing.{number_of}
use Rattle.replica_core.specs.Replica.{Replica}
use Rattle.replica_core.specs.Wire.{Wire, Takes, new_wire, piece_taken}
use Rattle.replica_core.specs.declared.wire.WireFault.{WireFault}
use Rattle.replica_core.specs.declared.wire.WireFault.TheVariants as wire
use Rattle.replica_shared.specs.Feeding.{AreInLog, Feeds}
use Rattle.replica_shared.specs.Names.{ReplicaNames, IsInLog}
use Rattle.replica_answers.specs.Followed.{with_next, records_by, records_in, are_numbered, log_in, HasRead, HasMoved, HasStayed, Covers, IsFollowing, IsAhead, IsReadOf, AreWhole, AreCut}

-- ---- the records of bytes

-- whatever whole records stand at the front are the first
first_by : (n : ℕ) (bytes : List ℕ) (records : List Record) (left : List ℕ) → AreFirst current bytes records left → length bytes ≤ n → IsPrefix records (records_by n bytes)
first_by n bytes [] left first few = (records_by n bytes, refl)
first_by zero bytes (r ∷ records) left first few =
    let text = flat_map (spelling current) records in
    absurd (omega (
      arith,
      few,
      ap (λ (l : List ℕ). length l) first.split,
      length-append (spelling current r ++ text) left,
      length-append (spelling current r) text,
      length-spelling current r,
    ))
first_by (suc n) bytes (r ∷ records) left first few =
    let text = flat_map (spelling current) records in
    let rest = text ++ left in
    let split : bytes ≡ spelling current r ++ rest = first.split ∙ append_assoc (spelling current r) text left in
    let read : record_at current bytes ≡ Ok (r, rest) = ap (record_at current) split ∙ record_again current r rest first.have.0 in
    let fewer : length rest ≤ n = omega (arith, few, ap (λ (l : List ℕ). length l) split, length-append (spelling current r) rest, length-spelling current r) in
    let later = first_by n rest records left (record { split = refl; have = first.have.1 }) fewer in
    (later.0, ap (λ (l : List Record). r ∷ l) later.1 ∙ sym (ap (with_next (records_by n)) read))

numbered_from : (n : ℕ) (records : List Record) → are_numbered n records ≡ true → AreNumbered n records
numbered_from n [] e = tt
numbered_from n (r ∷ records) e =
    let parts = and_parts (eqb r.gno n) (are_numbered (n + 1) records) e in
    (eqb-true _ _ parts.0, numbered_from (n + 1) records parts.1)

covers_in : (bytes : List ℕ) → are_numbered 1 (records_in bytes) ≡ true → Covers (records_in bytes) bytes
covers_in bytes numbered = record {
  numbered = numbered_from 1 (records_in bytes) numbered;
  begin = λ part records left begins first.
      let text = flat_map (spelling current) records in
      let split : bytes ≡ text ++ (left ++ begins.0) = sym begins.1 ∙ ap (λ (l : List ℕ). l ++ begins.0) first.split ∙ append_assoc text left begins.0 in
      first_by (length bytes) bytes records (left ++ begins.0) (record { split = split; have = first.have }) (omega arith);
}

none_read : (source : List ℕ) → HasRead [] (new_wire source)
none_read source = record { gone = []; splits = record { first = record { split = refl; have = tt }; partial = partial_none current } }

starts : (bytes source : List ℕ) (b : Bool) → are_numbered 1 (records_in bytes) ≡ b → IsFollowing (cond b (Some (records_in bytes)) None) (Some bytes) (new_wire source)
starts bytes source true numbered = ([], none_read source, covers_in bytes numbered)
starts bytes source false numbered = tt

-- a new wire has its log before it
pub following_begins : (log : Option (List Record)) (bytes : Option (List ℕ)) (source : List ℕ) → log ≡ log_in bytes → IsFollowing log bytes (new_wire source)
following_begins log None source is = subst (λ (l : Option (List Record)). IsFollowing l None (new_wire source)) (sym is) tt
following_begins log (Some bytes) source is =
    subst (λ (l : Option (List Record)). IsFollowing l (Some bytes) (new_wire source)) (sym is) (starts bytes source (are_numbered 1 (records_in bytes)) refl)

-- ---- what a wire has read

longer : (read piece : List ℕ) (records added : List Record) (rest left : List ℕ) → Splits current read records rest → Splits current (rest ++ piece) added left →
    Splits current (read ++ piece) (records ++ added) left
longer read piece records added rest left before behind =
    let text = flat_map (spelling current) records in
    let split : read ++ piece ≡ text ++ (rest ++ piece) = ap (λ (l : List ℕ). l ++ piece) before.first.split ∙ append_assoc text rest piece in
    record {
      first = first-append current (read ++ piece) records added (rest ++ piece) left (record { split = split; have = before.first.have }) behind.first;
      partial = behind.partial;
    }

-- the records are those that are gone then, and those that wait
now_read : (read : List ℕ) (records : List Record) (left : List ℕ) (gone : List Record) (new : Wire) → records ≡ gone ++ new.waiting → left ≡ new.rest → Splits current read records left →
    HasRead read new
now_read read records left gone new are rest splits = record {
  gone = gone;
  splits = subst (λ (l : List Record). Splits current read l new.rest) are (subst (λ (l : List ℕ). Splits current read records l) rest splits);
}

-- what a call takes of a piece was read then
pub takes_read : (old new : Wire) (r then : Replica) (piece : List ℕ) (answer : Result ℕ WireFault) (read : List ℕ) → Takes old r piece answer new then → HasRead read old →
    HasRead (read ++ piece_taken answer piece) new
takes_read old new r then piece (Ok count) read takes has =
    let t = takes.is in
    let all = longer read piece (has.gone ++ old.waiting) t.added old.rest new.rest has.splits t.splits in
    now_read (read ++ piece) ((has.gone ++ old.waiting) ++ t.added) new.rest ((has.gone ++ old.waiting) ++ t.added) new
    (sym (append-nil _) ∙ ap (λ (l : List Record). ((has.gone ++ old.waiting) ++ t.added) ++ l) (sym t.none)) refl all
takes_read old new r then piece (Err (wire.Replica fault)) read takes has =
    let t = takes.is in
    let all = longer read piece (has.gone ++ old.waiting) t.added old.rest new.rest has.splits t.splits in
    let are : (has.gone ++ old.waiting) ++ t.added ≡ (has.gone ++ t.hands.gone) ++ new.waiting =
    append_assoc has.gone old.waiting t.added ∙ ap (λ (l : List Record). has.gone ++ l) t.hands.split ∙ sym (append_assoc has.gone t.hands.gone new.waiting) in
    now_read (read ++ piece) ((has.gone ++ old.waiting) ++ t.added) new.rest (has.gone ++ t.hands.gone) new are refl all
takes_read old new r then piece (Err (wire.Codec fault)) read takes has =
    let t = takes.is in
    subst (λ (l : List ℕ). HasRead l new) (sym (append-nil read))
    (now_read read (has.gone ++ old.waiting) old.rest (has.gone ++ old.waiting) new
    (sym (append-nil _) ∙ ap (λ (l : List Record). (has.gone ++ old.waiting) ++ l) (sym t.none)) (sym t.rest) has.splits)
takes_read old new r then piece (Err (wire.Waiting fault)) read takes has =
    let t = takes.is in
    let are : has.gone ++ old.waiting ≡ (has.gone ++ t.hands.gone) ++ new.waiting =
    ap (λ (l : List Record). has.gone ++ l) t.hands.split ∙ sym (append_assoc has.gone t.hands.gone new.waiting) in
    subst (λ (l : List ℕ). HasRead l new) (sym (append-nil read)) (now_read read (has.gone ++ old.waiting) old.rest (has.gone ++ t.hands.gone) new are (sym t.rest) has.splits)

-- by what a shared replica answers
module _ {names : ReplicaNames} {preserve : Bool} {old new : Wire} {piece : List ℕ} {answer : Result ℕ WireFault} (feeds : Feeds names preserve old piece answer new) where
  fed_read : (read : List ℕ) → HasRead read old → HasRead (read ++ piece_taken answer piece) new
  fed_read read has =
      subst (λ (l : List ℕ). HasRead (read ++ l) new) (sym feeds.bytes) (takes_read old new feeds.before feeds.core piece feeds.taken read feeds.takes has)

  -- the piece is taken,
  pub fed_moved : piece_taken answer piece ≡ piece → HasMoved old piece new
  fed_moved all read has = subst (λ (l : List ℕ). HasRead (read ++ l) new) all (fed_read read has)

  -- or nothing of it is
  pub fed_stayed : piece_taken answer piece ≡ [] → HasStayed old new
  fed_stayed none read has = subst (λ (l : List ℕ). HasRead l new) (ap (λ (l : List ℕ). read ++ l) none ∙ append-nil read) (fed_read read has)

-- ---- each record has its place in the log

get_behind : (front rest : List Record) (r : Record) → slice_get (front ++ r ∷ rest) (length front) ≡ Some r
get_behind [] rest r = refl
get_behind (x ∷ front) rest r = get_behind front rest r

each_in_log : (log front records rest : List Record) → AreNumbered 1 log → log ≡ front ++ (records ++ rest) → AllByRecursion (IsInLog (Some log)) records
each_in_log log front [] rest numbered are = tt
each_in_log log front (r ∷ records) rest numbered are =
    let number = number_of log front (records ++ rest) r numbered are in
    let place : r.gno - 1 ≡ length front = omega (arith, number) in
    let got : slice_get log (r.gno - 1) ≡ Some r = ap (slice_get log) place ∙ ap (λ (l : List Record). slice_get l (length front)) are ∙ get_behind front (records ++ rest) r in (
      (omega (arith, number), got),
      each_in_log log (front ++ r ∷ []) records rest numbered (are ∙ sym (append_assoc front (r ∷ []) (records ++ rest))),
    )

-- those that wait, and those that a piece makes whole
in_log : (log : List Record) (w : Wire) (read piece more : List ℕ) → HasRead read w → Covers log (read ++ (piece ++ more)) → AreInLog (Some log) w piece
in_log log w read piece more has covers = (
  let begin = covers.begin read (has.gone ++ w.waiting) w.rest (piece ++ more, refl) has.splits.first in
      each_in_log log has.gone w.waiting begin.0 covers.numbered (sym begin.1 ∙ append_assoc has.gone w.waiting begin.0),
  λ added left splits.
      let all = longer read piece (has.gone ++ w.waiting) added w.rest left has.splits splits in
      let begin = covers.begin (read ++ piece) ((has.gone ++ w.waiting) ++ added) left (more, append_assoc read piece more) all.first in
      each_in_log log (has.gone ++ w.waiting) added begin.0 covers.numbered (sym begin.1 ∙ append_assoc (has.gone ++ w.waiting) added begin.0),
)

pub ahead_in_log : (log : Option (List Record)) (w : Wire) (piece : List ℕ) → IsAhead log w piece → AreInLog log w piece
ahead_in_log None w piece ahead = tt
ahead_in_log (Some log) w piece ahead = in_log log w ahead.0 piece ahead.1 ahead.2 ahead.3

-- ---- bytes that come next

-- the wire stayed
pub ahead_stayed : (log : Option (List Record)) (old new : Wire) (bytes : List ℕ) → ((read : List ℕ) → HasRead read old → HasRead read new) → IsAhead log old bytes → IsAhead log new bytes
ahead_stayed None old new bytes stayed ahead = tt
ahead_stayed (Some log) old new bytes stayed ahead = (ahead.0, ahead.1, stayed ahead.0 ahead.2, ahead.3)

-- the first of the bytes were read
pub ahead_moved : (log : Option (List Record)) (old new : Wire) (first rest : List ℕ) → ((read : List ℕ) → HasRead read old → HasRead (read ++ first) new) → IsAhead log old (first ++ rest) →
    IsAhead log new rest
ahead_moved None old new first rest moved ahead = tt
ahead_moved (Some log) old new first rest moved ahead =
    let same : ahead.0 ++ ((first ++ rest) ++ ahead.1) ≡ (ahead.0 ++ first) ++ (rest ++ ahead.1) =
    ap (λ (l : List ℕ). ahead.0 ++ l) (append_assoc first rest ahead.1) ∙ sym (append_assoc ahead.0 first (rest ++ ahead.1)) in
    (ahead.0 ++ first, ahead.1, moved ahead.0 ahead.2, subst (Covers log) same ahead.3)

-- the first of the bytes come next
pub ahead_front : (log : Option (List Record)) (w : Wire) (first rest : List ℕ) → IsAhead log w (first ++ rest) → IsAhead log w first
ahead_front None w first rest ahead = tt
ahead_front (Some log) w first rest ahead =
    (ahead.0, rest ++ ahead.1, ahead.2, subst (λ (l : List ℕ). Covers log (ahead.0 ++ l)) (append_assoc first rest ahead.1) ahead.3)

-- bytes that a stream gives come next
pub following_ahead : (log : Option (List Record)) (before after : Option (List ℕ)) (bytes : List ℕ) (w : Wire) → IsFollowing log before w → Consumes before after bytes → IsAhead log w bytes
following_ahead None before after bytes w following gives = tt
following_ahead (Some log) None after bytes w following gives = absurd following
following_ahead (Some log) (Some left) None bytes w following gives = absurd gives
following_ahead (Some log) (Some left) (Some rest) bytes w following gives =
    (following.0, rest, following.1, subst (λ (l : List ℕ). Covers log (following.0 ++ l)) gives following.2)

-- and once they were read it goes on
pub following_on : (log : Option (List Record)) (before after : Option (List ℕ)) (bytes : List ℕ) (old new : Wire) → IsFollowing log before old → Consumes before after bytes →
    ((read : List ℕ) → HasRead read old → HasRead (read ++ bytes) new) → IsFollowing log after new
following_on None before after bytes old new following gives moved = tt
following_on (Some log) None after bytes old new following gives moved = absurd following
following_on (Some log) (Some left) None bytes old new following gives moved = absurd gives
following_on (Some log) (Some left) (Some rest) bytes old new following gives moved =
    let same : following.0 ++ left ≡ (following.0 ++ bytes) ++ rest = ap (λ (l : List ℕ). following.0 ++ l) gives ∙ sym (append_assoc following.0 bytes rest) in
    (following.0 ++ bytes, moved following.0 following.1, subst (Covers log) same following.2)

-- ---- how a wire ends

-- of a new wire all bytes are left
pub read_begins : (bytes : Option (List ℕ)) (source : List ℕ) → IsReadOf bytes bytes (new_wire source)
read_begins None source = tt
read_begins (Some bytes) source = ([], refl, none_read source)

-- once bytes that a stream gives were read fewer are
pub read_on : (all before after : Option (List ℕ)) (bytes : List ℕ) (old new : Wire) → IsReadOf all before old → Consumes before after bytes →
    ((read : List ℕ) → HasRead read old → HasRead (read ++ bytes) new) → IsReadOf all after new
read_on None before after bytes old new is gives moved = tt
read_on (Some all) None after bytes old new is gives moved = absurd is
read_on (Some all) (Some left) None bytes old new is gives moved = absurd gives
read_on (Some all) (Some left) (Some rest) bytes old new is gives moved =
    (is.0 ++ bytes, is.1 ∙ ap (λ (l : List ℕ). is.0 ++ l) gives ∙ sym (append_assoc is.0 bytes rest), moved is.0 is.2)

-- nothing is left
read_all : (all left read : List ℕ) → all ≡ read ++ left → left ≡ [] → read ≡ all
read_all all left read split none = sym (split ∙ ap (λ (l : List ℕ). read ++ l) none ∙ append-nil read)

pub ends_whole : (all left : Option (List ℕ)) (w : Wire) → IsReadOf all left w → IsAtEnd left → w.rest ≡ [] → IfSome all (AreWhole left)
ends_whole None left w is none whole = tt
ends_whole (Some all) None w is none whole = absurd is
ends_whole (Some all) (Some left) w is none whole =
    let records = is.2.gone ++ w.waiting in
    let splits : Splits current all records w.rest = subst (λ (l : List ℕ). Splits current l records w.rest) (read_all all left is.0 is.1 none) is.2.splits in
    (ap (λ (l : List ℕ). Some l) none, (records, subst (Splits current all records) whole splits))

pub ends_cut : (all left : Option (List ℕ)) (w : Wire) → IsReadOf all left w → IsAtEnd left → 1 ≤ length w.rest → IfSome all (AreCut left)
ends_cut None left w is none some = tt
ends_cut (Some all) None w is none some = absurd is
ends_cut (Some all) (Some left) w is none some =
    let records = is.2.gone ++ w.waiting in
    let splits : Splits current all records w.rest = subst (λ (l : List ℕ). Splits current l records w.rest) (read_all all left is.0 is.1 none) is.2.splits in
    (ap (λ (l : List ℕ). Some l) none, (records, w.rest, some, splits))
