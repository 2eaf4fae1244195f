-- Records that are handed on one after another, the pieces that they come in, and what became of all bytes that a wire took.
use Rattle.std.proofs.Common.{◌≡◌, ◌∙◌, sym, ap, subst, refl, ℕ, ◌+◌, ◌⊎◌, List, [], ◌∷◌, ◌++◌, length, reverse, append_assoc, append-nil, length-append, Result, Ok, Err, arith, Option, Some, None}
use Rattle.std.specs.Prelude.{IsOk}
use Rattle.std.proofs.lemmas.List.{nil_from_length, reverse-append}
use Rattle.record_codec.specs.declared.records.Record.{Record}
use Rattle.record_codec.specs.Version.{current}
use Rattle.record_codec.specs.declared.fault.CodecFault.{CodecFault}
use Rattle.record_codec.specs.declared.fault.CodecFault.TheVariants as codec
use Rattle.record_stream.specs.Stream.{Splits, Stops, IsPartial}
use Rattle.relay.specs.declared.ReplicaFault.{ReplicaFault}
use Rattle.relay.specs.declared.Received.{Received}
use Rattle.relay.specs.declared.Received.TheVariants.{Accepted, Skipped}
use Rattle.replica_core.specs.Replica.{Replica}
use Rattle.replica_core.specs.Calls.{received, left_by_receive, relay_of}
use Rattle.replica_core.specs.declared.wire.WireFault.{WireFault}
use Rattle.replica_core.specs.declared.wire.WireFault.TheVariants as wire
use Rattle.replica_core.specs.Wire.{Wire, left_by_answer, handed, AreTaken, IsFirstRefused, HandsAll, HandsOn, Hands, Gathers, IsCodecCause, TakesAs, Takes, HasTaken, NothingTaken, TakesOn}
use Rattle.std.specs.Option.{option_map_or}
use Rattle.std.proofs.lemmas.Bool.{false≢true}
use Rattle.record_stream.proofs.Whole.{partial_none}
use Rattle.record_stream.proofs.Cuts.{cuts_do_not_matter}
use Rattle.relay.specs.declared.ReplicaFault.TheVariants.{Stopped}
use Rattle.relay.specs.Relay as relay

pub handed-append : (from : List ℕ) (r : Replica) (xs ys : List Record) → handed from r (xs ++ ys) ≡ handed from (handed from r xs) ys
handed-append from r [] ys = refl
handed-append from r (x ∷ xs) ys = handed-append from (left_by_answer r x (received r from x)) xs ys

pub taken-append : (from : List ℕ) (r : Replica) (xs ys : List Record) → AreTaken from r xs → AreTaken from (handed from r xs) ys → AreTaken from r (xs ++ ys)
taken-append from r [] ys h k = k
taken-append from r (x ∷ xs) ys h k = (h.0, taken-append from (left_by_answer r x (received r from x)) xs ys h.1 k)

-- some records, and others behind them
pub hands-append : (from : List ℕ) (r mid then : Replica) (xs ys : List Record) → HandsAll from r xs mid → HandsAll from mid ys then → HandsAll from r (xs ++ ys) then
hands-append from r mid then xs ys h k = record {
  taken = taken-append from r xs ys h.taken (subst (λ (m : Replica). AreTaken from m ys) h.left k.taken);
  left = k.left ∙ ap (λ (m : Replica). handed from m ys) h.left ∙ sym (handed-append from r xs ys);
}

-- ---- a list that is turned round, so that the first is taken off its end

-- of these records some are handed on, and taken, and the others are left
pub record HandsFront (from : List ℕ) (r : Replica) (records left : List Record) (then : Replica) : Type 0 where
  pub gone : List Record
  pub split : records ≡ gone ++ left
  pub hands : HandsAll from r gone then

-- the one that is taken off is taken
pub next_handed : (from : List ℕ) (r mid then : Replica) (records turned rest : List Record) (new : Record) (answer : Received) → HandsFront from r records (reverse turned) mid →
    turned ≡ rest ++ new ∷ [] → received mid from new ≡ Ok answer → then ≡ left_by_receive mid new answer → HandsFront from r records (reverse rest) then
next_handed from r mid then records turned rest new answer h is told left = record {
  gone = h.gone ++ new ∷ [];
  split = h.split ∙ ap (λ (l : List Record). h.gone ++ l) (ap (λ (l : List Record). reverse l) is ∙ reverse-append rest (new ∷ [])) ∙ sym (append_assoc h.gone (new ∷ []) (reverse rest));
  hands = hands-append from r mid then h.gone (new ∷ []) h.hands (record { taken = (rw told, tt); left = left ∙ ap (left_by_answer mid new) (sym told) });
}

-- ---- what is handed on makes the accepted records grow, and changes nothing else

pub record Grows (r then : Replica) : Type 0 where
  pub more : List Record
  pub is : then ≡ record r { accepted = r.accepted ++ more }

stays : (r : Replica) → Grows r r
stays r = record { more = []; is = ap (λ (l : List Record). record r { accepted = l }) (sym (append-nil r.accepted)) }

grows_on : (r mid then : Replica) → Grows r mid → Grows mid then → Grows r then
grows_on r mid then h k = record {
  more = h.more ++ k.more;
  is = k.is ∙ ap (λ (m : Replica). record m { accepted = m.accepted ++ k.more }) h.is ∙ ap (λ (l : List Record). record r { accepted = l }) (append_assoc r.accepted h.more k.more);
}

grows_by_answer : (r : Replica) (new : Record) (answer : Result Received ReplicaFault) → Grows r (left_by_answer r new answer)
grows_by_answer r new (Ok Accepted) = record { more = new ∷ []; is = refl }
grows_by_answer r new (Ok Skipped) = stays r
grows_by_answer r new (Err fault) = stays r

pub handed_grows : (from : List ℕ) (r : Replica) (records : List Record) → Grows r (handed from r records)
handed_grows from r [] = stays r
handed_grows from r (x ∷ records) = grows_on r _ _ (grows_by_answer r x (received r from x)) (handed_grows from (left_by_answer r x (received r from x)) records)

hands_grow : (from : List ℕ) (r then : Replica) (records : List Record) → HandsAll from r records then → Grows r then
hands_grow from r then records h = subst (λ (q : Replica). Grows r q) (sym h.left) (handed_grows from r records)

pub takes_grow : (old new : Wire) (r then : Replica) (piece : List ℕ) (answer : Result ℕ WireFault) → Takes old r piece answer new then → Grows r then
takes_grow old new r then piece (Ok count) h = hands_grow _ r then _ h.is.hands
takes_grow old new r then piece (Err (wire.Replica fault)) h = hands_grow _ r then _ h.is.hands.hands
takes_grow old new r then piece (Err (wire.Codec fault)) h = hands_grow _ r then _ h.is.hands
takes_grow old new r then piece (Err (wire.Waiting fault)) h = hands_grow _ r then _ h.is.hands.hands

-- where as many are accepted as before, nothing changed
pub grows_none : (r then : Replica) → Grows r then → length then.accepted ≡ length r.accepted → then ≡ r
grows_none r then h e =
    let none : length h.more ≡ 0 = (let all = ap (λ (q : Replica). length q.accepted) h.is in omega (arith, length-append r.accepted h.more)) in
    h.is ∙ ap (λ (l : List Record). record r { accepted = l }) (ap (λ (l : List Record). r.accepted ++ l) (nil_from_length h.more none) ∙ append-nil r.accepted)

-- ---- a piece

-- what a piece that was gathered, and then handed on, is told as
abbrev pub told_of_piece : ℕ → Result ℕ ReplicaFault → Result ℕ WireFault
told_of_piece before (Ok count) = Ok (before + count)
told_of_piece before (Err fault) = Err (wire.Replica fault)

-- the records that waited are handed on, then the piece is gathered, then what waits is handed on
pub takes_gathered : (old held full new : Wire) (r mid then : Replica) (piece : List ℕ) (before : ℕ) (answer : Result ℕ ReplicaFault) → Hands old r (Ok before) held mid → Gathers held piece full →
    Hands full mid answer new then → Takes old r piece (told_of_piece before answer) new then
takes_gathered old held full new r mid then piece before answer first g last = record { source = last.source ∙ from; is = of answer last.is }
  where
    from : full.source ≡ old.source
    from = g.source ∙ first.source

    splits : Splits current (old.rest ++ piece) full.waiting new.rest
    splits =
        let added : g.adds.added ≡ full.waiting = sym (g.adds.new_are ∙ ap (λ (l : List Record). l ++ g.adds.added) first.is.2) in
        subst (λ (x : List ℕ × List Record × List ℕ). Splits current (x.0 ++ piece) x.1 x.2) (λ i. (first.rest i, added i, sym last.rest i)) g.adds.splits

    both : (records : List Record) (end : Replica) → HandsAll full.source mid records end → HandsAll old.source r (old.waiting ++ records) end
    both records end h = hands-append old.source r mid end old.waiting records first.is.0 (subst (λ (s : List ℕ). HandsAll s mid records end) from h)

    of : (a : Result ℕ ReplicaFault) → HandsOn full.source mid full.waiting a new.waiting then → TakesAs old r piece (told_of_piece before a) new then
    of (Ok count) h = record {
      added = full.waiting;
      splits = splits;
      hands = both full.waiting then h.0;
      number = (let one = first.is.1 in let two = h.1 in omega (arith, length-append old.waiting full.waiting));
      none = h.2;
    }
    of (Err fault) h = record {
      added = full.waiting;
      splits = splits;
      hands = record {
        gone = old.waiting ++ h.gone;
        split = ap (λ (l : List Record). old.waiting ++ l) h.split ∙ sym (append_assoc old.waiting h.gone new.waiting);
        hands = both h.gone then h.hands;
        refused = subst (λ (s : List ℕ). IsFirstRefused s then new.waiting fault) from h.refused;
      };
      behind = omega (arith, ap (λ (l : List Record). length l) h.split, length-append h.gone new.waiting);
    }

-- where none waited there is nothing to hand on before
pub takes_first : (old full new : Wire) (r then : Replica) (piece : List ℕ) (answer : Result ℕ ReplicaFault) → old.waiting ≡ [] → Gathers old piece full → Hands full r answer new then →
    Takes old r piece (told_of_piece 0 answer) new then
takes_first old full new r then piece answer none g last =
    takes_gathered old old full new r r then piece 0 answer (record { source = refl; is = rw none (record { taken = tt; left = refl }, refl, refl); rest = refl }) g last

-- nothing of a piece is taken behind the records that waited
pub takes_nothing : (old held new : Wire) (r mid : Replica) (piece : List ℕ) (before : ℕ) (fault : CodecFault) → Hands old r (Ok before) held mid → IsCodecCause held piece fault → new ≡ held →
    Takes old r piece (Err (wire.Codec fault)) new mid
takes_nothing old held new r mid piece before fault first cause same =
    let so = subst (λ (b : List ℕ). (fault ≡ codec.Memory) ⊎ Stops current (b ++ piece) fault) first.rest cause in
    subst (λ (w : Wire). Takes old r piece (Err (wire.Codec fault)) w mid) (sym same)
    (record { source = first.source; is = record { cause = so; hands = first.is.0; none = first.is.2; rest = first.rest } })

-- what waits is handed on
pub hands_on_grow : (old new : Wire) (r then : Replica) (answer : Result ℕ ReplicaFault) → Hands old r answer new then → Grows r then
hands_on_grow old new r then (Ok count) h = hands_grow old.source r then old.waiting h.is.0
hands_on_grow old new r then (Err fault) h = hands_grow old.source r then h.is.gone h.is.hands

-- ---- all bytes that a wire took

-- a replica that answers Ok is not stopped
ok_runs : (stopped : Option ℕ) (a : Result Received ReplicaFault) → IsOk (option_map_or (λ gno. Err (Stopped gno)) stopped a) → option_map_or (λ gno. Err (Stopped gno)) stopped a ≡ a
ok_runs None a h = refl
ok_runs (Some gno) a h = absurd (false≢true h)

-- two replicas with the same records accepted answer the same, where neither is stopped
same_answer : (from : List ℕ) (r s : Replica) (new : Record) → IsOk (received r from new) → relay_of r ≡ relay_of s → s.stopped ≡ None → received r from new ≡ received s from new
same_answer from r s new ok same runs =
    ok_runs r.stopped (relay.received (relay_of r) from new) ok
    ∙ ap (λ (q : relay.Relay). relay.received q from new) same
    ∙ ap (λ (o : Option ℕ). option_map_or (λ gno. Err (Stopped gno)) o (relay.received (relay_of s) from new)) (sym runs)

same_left : (r s : Replica) (new : Record) (answer : Result Received ReplicaFault) → relay_of r ≡ relay_of s → relay_of (left_by_answer r new answer) ≡ relay_of (left_by_answer s new answer)
same_left r s new (Ok Accepted) same = ap (λ (q : relay.Relay). relay.with_accepted q new) same
same_left r s new (Ok Skipped) same = same
same_left r s new (Err fault) same = same

-- and are left the same
record Alike (from : List ℕ) (r s : Replica) (records : List Record) : Type 0 where
  taken : AreTaken from s records
  left : relay_of (handed from r records) ≡ relay_of (handed from s records)

alike : (from : List ℕ) (r s : Replica) (records : List Record) → AreTaken from r records → relay_of r ≡ relay_of s → s.stopped ≡ None → Alike from r s records
alike from r s [] h same runs = record { taken = tt; left = same }
alike from r s (new ∷ records) h same runs =
    let answer = same_answer from r s new h.0 same runs in
    let left = ap (λ (a : Result Received ReplicaFault). relay_of (left_by_answer r new a)) answer ∙ same_left r s new (received s from new) same in
    let grown = grows_by_answer s new (received s from new) in
    let rest = alike from (left_by_answer r new (received r from new)) (left_by_answer s new (received s from new)) records h.1 left (ap (λ (q : Replica). q.stopped) grown.is ∙ runs) in
    record { taken = (subst (λ (a : Result Received ReplicaFault). IsOk a) answer h.0, rest.taken); left = rest.left }

pub nothing_taken : NothingTaken
nothing_taken start source runs = record {
  gone = [];
  splits = record { first = record { split = refl; have = tt }; partial = partial_none current };
  taken = tt;
  accepted = refl;
  runs = runs;
}

-- More bytes that a wire took: the records that they end are added, and those that went were handed on.
record TakesMore (old : Wire) (now : Replica) (more : List ℕ) (new : Wire) (then : Replica) : Type 0 where
  source : new.source ≡ old.source
  gone : List Record
  hands : HandsAll old.source now gone then
  added : List Record
  split : old.waiting ++ added ≡ gone ++ new.waiting
  splits : Splits current (old.rest ++ more) added new.rest

goes_on : (start now then : Replica) (bytes more : List ℕ) (old new : Wire) → HasTaken start bytes old now → TakesMore old now more new then → HasTaken start (bytes ++ more) new then
goes_on start now then bytes more old new h takes =
    let gone = takes.gone in
    let before = handed old.source start h.gone in
    let goes = alike old.source now before gone takes.hands.taken h.accepted (ap (λ (q : Replica). q.stopped) (handed_grows old.source start h.gone).is ∙ h.runs) in
    let whole : (h.gone ++ old.waiting) ++ takes.added ≡ (h.gone ++ gone) ++ new.waiting =
    append_assoc h.gone old.waiting takes.added ∙ ap (λ (l : List Record). h.gone ++ l) takes.split ∙ sym (append_assoc h.gone gone new.waiting) in
    record {
      gone = h.gone ++ gone;
      splits = subst (λ (l : List Record). Splits current (bytes ++ more) l new.rest) whole
          (cuts_do_not_matter current bytes more (h.gone ++ old.waiting) takes.added old.rest new.rest h.splits takes.splits);
      taken = rw takes.source (taken-append old.source start h.gone gone h.taken goes.taken);
      accepted = rw takes.source (ap relay_of takes.hands.left ∙ goes.left ∙ ap relay_of (sym (handed-append old.source start h.gone gone)));
      runs = h.runs;
    }

-- none were taken
none_more : (rest now : List ℕ) → IsPartial current rest → now ≡ rest → Splits current (rest ++ []) [] now
none_more rest now partial same = rw same (record { first = record { split = append-nil rest; have = tt }; partial = partial })

pub takes_on : TakesOn
takes_on start now then bytes piece old new (Ok count) h t =
    let gone = old.waiting ++ t.is.added in
    goes_on start now then bytes piece old new h
    (record { source = t.source; gone = gone; hands = t.is.hands; added = t.is.added; split = sym (ap (λ (l : List Record). gone ++ l) t.is.none ∙ append-nil gone); splits = t.is.splits })
takes_on start now then bytes piece old new (Err (wire.Replica fault)) h t =
    goes_on start now then bytes piece old new h
    (record { source = t.source; gone = t.is.hands.gone; hands = t.is.hands.hands; added = t.is.added; split = t.is.hands.split; splits = t.is.splits })
takes_on start now then bytes piece old new (Err (wire.Codec fault)) h t =
    let split = ap (λ (l : List Record). old.waiting ++ l) (sym t.is.none) in
    goes_on start now then bytes [] old new h
    (record { source = t.source; gone = old.waiting; hands = t.is.hands; added = []; split = split; splits = none_more old.rest new.rest h.splits.partial t.is.rest })
takes_on start now then bytes piece old new (Err (wire.Waiting fault)) h t =
    let split = append-nil old.waiting ∙ t.is.hands.split in
    goes_on start now then bytes [] old new h
    (record { source = t.source; gone = t.is.hands.gone; hands = t.is.hands.hands; added = []; split = split; splits = none_more old.rest new.rest h.splits.partial t.is.rest })
