-- What the core, and what stands with it, are once a wire took a piece.
use Rattle.std.proofs.Common.{◌≡◌, ◌∙◌, sym, ap, subst, refl, ℕ, ◌<◌, ◌≤◌, inl, Bool, true, false, ◌||◌, nat_eq, nat_lt, List, [], ◌∷◌, ◌++◌, length, length-append, append-nil, Option, Some, None}
use Rattle.std.proofs.Common.{Result, Ok, Err, arith}
use Rattle.std.specs.Prelude.{IsOk}
use Rattle.std.specs.Option.{option_map_or}
use Rattle.std.proofs.Math.Bool.{or-false}
use Rattle.std.proofs.lemmas.Bool.{false≢true, false_from_ne_true, eqb-true, ltb-true}
use mathlib.Core.List.{IsPrefix}
use Rattle.store_trait.specs.declared.Op.{Op}
use Rattle.record_codec.specs.declared.fault.CodecFault.{CodecFault}
use Rattle.record_codec.specs.declared.records.Record.{Record}
use Rattle.published.specs.declared.counts.Counts.{Counts}
use Rattle.published.specs.Status.{NoneFalls, latest}
use Rattle.relay.specs.declared.ReplicaFault.{ReplicaFault}
use Rattle.relay.specs.declared.ReplicaFault.TheVariants as faults
use Rattle.relay.specs.declared.Received.{Received}
use Rattle.relay.specs.declared.Received.TheVariants.{Accepted, Skipped}
use Rattle.gapped.proofs.Choosing.{records_at_longer}
use Rattle.replica_core.specs.Replica.{Replica, ran, operations}
use Rattle.replica_core.specs.Calls.{new_over, left_by_receive}
use Rattle.replica_core.specs.Sound.{IsSound}
use Rattle.replica_core.specs.Wire.{Wire, HandsAll, Gathers, IsCodecCause, Takes}
use Rattle.replica_core.specs.declared.wire.WireFault.{WireFault}
use Rattle.replica_core.specs.declared.wire.WireFault.TheVariants as wire
use Rattle.replica_core.proofs.Handing.{Grows, takes_grow, hands_on_grow, takes_first, takes_nothing, grows_none}
use Rattle.replica_shared.specs.Names.{ReplicaNames, IsOfLog}
use Rattle.replica_shared.specs.Together.{State, IsWhole, words_of}
use Rattle.replica_shared.specs.Feeding.{left_by_take, SettlesOrLacks, told_behind, TakesAndSettles, HandsAs, Feeds}
use Rattle.replica_core.proofs.Showing.{sound_stands, commits_within}
use Rattle.replica_shared.proofs.Stops.{stops_grown}
use Rattle.replica_shared.proofs.Whole.{unsettled}

-- ---- more is accepted, or nothing changed

not_more : (r then : Replica) → Grows r then → length then.accepted ≤ length r.accepted → then ≡ r
not_more r then h few =
    grows_none r then h (let all = ap (λ (q : Replica). length q.accepted) h.is in omega (arith, length-append r.accepted h.more))

-- what a record leaves that is received
pub receive_grows : (r then : Replica) (new : Record) (answer : Received) → then ≡ left_by_receive r new answer → Grows r then
receive_grows r then new Accepted is = record { more = new ∷ []; is = is }
receive_grows r then new Skipped is = record { more = []; is = is ∙ ap (λ (l : List Record). record r { accepted = l }) (sym (append-nil r.accepted)) }

-- where no more are accepted than before, nothing changed
pub same_core : (r then : Replica) (before after : ℕ) → Grows r then → before ≡ length r.accepted → after ≡ length then.accepted → after ≤ before → then ≡ r
same_core r then before after grows was is few =
    not_more r then grows (subst (λ n. length then.accepted ≤ n) was (subst (λ n. n ≤ before) is few))

-- where a record was taken the replica ran
runs : (stopped : Option ℕ) (answer : Result Received ReplicaFault) → IsOk (option_map_or (λ gno. Err (faults.Stopped gno)) stopped answer) → stopped ≡ None
runs None answer ok = refl
runs (Some gno) answer ok = absurd (false≢true ok)

hands_where_running : (from : List ℕ) (r then : Replica) (records : List Record) → HandsAll from r records then → length r.accepted < length then.accepted → r.stopped ≡ None
hands_where_running from r then [] h more = let same = ap (λ (q : Replica). length q.accepted) h.left in absurd (omega arith)
hands_where_running from r then (x ∷ records) h more = runs r.stopped _ h.taken.0

-- a piece by which more is accepted met a replica that runs
pub takes_where_running : (old new : Wire) (r then : Replica) (piece : List ℕ) (answer : Result ℕ WireFault) → Takes old r piece answer new then
    → length r.accepted < length then.accepted → r.stopped ≡ None
takes_where_running old new r then piece (Ok count) h more = let is = h.is in hands_where_running old.source r then (old.waiting ++ is.added) is.hands more
takes_where_running old new r then piece (Err (wire.Replica fault)) h more = let is = h.is in hands_where_running old.source r then is.hands.gone is.hands.hands more
takes_where_running old new r then piece (Err (wire.Codec fault)) h more = let is = h.is in hands_where_running old.source r then old.waiting is.hands more
takes_where_running old new r then piece (Err (wire.Waiting fault)) h more = let is = h.is in hands_where_running old.source r then is.hands.gone is.hands.hands more

-- so did records that waited and were handed on
pub hands_where_running_as : (old new : Wire) (r then : Replica) (answer : Result ℕ WireFault) → HandsAs old r answer new then → length r.accepted < length then.accepted → r.stopped ≡ None
hands_where_running_as old new r then (Ok count) h more = hands_where_running old.source r then old.waiting h.is.0 more
hands_where_running_as old new r then (Err (wire.Replica fault)) h more = hands_where_running old.source r then h.is.gone h.is.hands more
hands_where_running_as old new r then (Err (wire.Codec fault)) h more = absurd h
hands_where_running_as old new r then (Err (wire.Waiting fault)) h more = absurd h

-- a replica that accepted more runs still
pub still_running : (r then : Replica) (before : ℕ) → Grows r then → (length r.accepted < length then.accepted → r.stopped ≡ None) → before ≡ length r.accepted
    → before < length then.accepted → then.stopped ≡ None
still_running r then before grows running was more =
    ap (λ (q : Replica). q.stopped) grows.is ∙ running (subst (λ n. n < length then.accepted) was more)

-- ---- a piece that was gathered

-- records that are handed on let a replica grow, and do nothing else to it
pub hands_grow_as : (old new : Wire) (r then : Replica) (answer : Result ℕ WireFault) → HandsAs old r answer new then → Grows r then
hands_grow_as old new r then (Ok count) h = hands_on_grow old new r then (Ok count) h
hands_grow_as old new r then (Err (wire.Replica fault)) h = hands_on_grow old new r then (Err fault) h
hands_grow_as old new r then (Err (wire.Codec fault)) h = absurd h
hands_grow_as old new r then (Err (wire.Waiting fault)) h = absurd h

-- is taken as a whole piece is
pub hands_take : (old full new : Wire) (r then : Replica) (piece : List ℕ) (answer : Result ℕ WireFault) → old.waiting ≡ [] → Gathers old piece full
    → HandsAs full r answer new then → Takes old r piece answer new then
hands_take old full new r then piece (Ok count) none g h = subst (λ n. Takes old r piece (Ok n) new then) (omega arith) (takes_first old full new r then piece (Ok count) none g h)
hands_take old full new r then piece (Err (wire.Replica fault)) none g h = takes_first old full new r then piece (Err fault) none g h
hands_take old full new r then piece (Err (wire.Codec fault)) none g h = absurd h
hands_take old full new r then piece (Err (wire.Waiting fault)) none g h = absurd h

-- no word falls
pub words_rise : (r then : Replica) (stored : List Counts) → Grows r then → latest stored ≡ words_of r → NoneFalls (latest stored) (words_of then)
words_rise r then stored g words =
    subst (λ (w : Counts). NoneFalls w (words_of then)) (sym words)
    (subst (λ (q : Replica). NoneFalls (words_of r) (words_of q)) (sym g.is) (omega (arith, length-append r.accepted g.more), omega arith, omega arith))

-- ---- what is true under the lock

module _ {names : ReplicaNames} {preserve : Bool} {known : Option (List Op)} {s : State} {appended : ℕ} {stored : List Counts}
    (h : IsWhole names preserve known s appended stored) where
  -- more records are accepted, and the words are stored
  pub whole_grown : {r : Replica} {after : List Counts} → Grows s.core r → IsOfLog names.log r.accepted → IsSound r → latest after ≡ words_of r
      → IsWhole names preserve known (record s { core = r; behind = true }) appended after
  whole_grown {after = after} g of_log sound words =
      let more : Replica = record s.core { accepted = s.core.accepted ++ g.more } in
      let t = h.stand in
      let p = s.publication in
      let whole : IsSound more = subst IsSound g.is sound in
      let same : ran more ≡ ran s.core = records_at_longer s.core.accepted g.more s.core.commits t.within in
      subst (λ (x : Replica). IsWhole names preserve known (record s { core = x; behind = true }) appended after) (sym g.is) (record {
        stand = record {
          named = t.named;
          within = commits_within more (sound_stands more whole);
          history = t.history;
          begins = subst (λ l. IsPrefix (p.published ++ p.waiting) (operations s.core.tables s.core.base l (length s.core.commits))) (sym same) t.begins;
          shown = t.shown;
          words = words ∙ ap words_of g.is;
          number = t.number;
          in_order = λ kept. (whole.in_order (t.named.3 ∙ kept)).ops;
          of_log = subst (λ (q : Replica). IsOfLog names.log q.accepted) g.is of_log;
        };
        kept = h.kept;
        line = h.line;
        claims = h.claims;
        stops = stops_grown s.core more (record { more = g.more; is = refl }) whole t.within h.stops;
        rest = unsettled (record s { core = more; behind = true }) refl;
        known_is = h.known_is;
      })

  -- the core is as it was
  pub whole_same : {r : Replica} → r ≡ s.core → IsWhole names preserve known (record s { core = r }) appended stored
  whole_same is = subst (λ (x : Replica). IsWhole names preserve known (record s { core = x }) appended stored) (sym is) h

-- ---- what a call is told

none_less : (n : ℕ) → nat_lt n n ≡ false
none_less n = false_from_ne_true (nat_lt n n) (λ is. let less = ltb-true n n is in absurd (omega arith))

-- a core that is as it was leaves the state so
pub left_same : (s : State) (core : Replica) → core ≡ s.core → left_by_take s core ≡ s
left_same s core is =
    ap (left_by_take s) is ∙ ap (λ (b : Bool). record s { behind = b }) (ap (λ (b : Bool). s.behind || b) (none_less (length s.core.accepted)) ∙ or-false s.behind)

-- what follows the wire's call, which leaves `mid`: where more records are accepted than before it, all is done that can be; then both
-- are told
pub record SettlesPast (s mid : State) (taken answer : Result ℕ WireFault) (then : State) : Type 0 where
  pub left : mid ≡ left_by_take s mid.core
  pub before : ℕ
  pub was : before ≡ length s.core.accepted
  pub settled : Result (Unit {0}) ReplicaFault
  pub none : length mid.core.accepted ≤ before → (settled ≡ Ok tt) × (then ≡ mid)
  pub some : before < length mid.core.accepted → SettlesOrLacks mid settled then
  pub told : answer ≡ told_behind taken settled

-- a wire's take, and all done behind it where more was accepted, is what a piece does
pub takes_and_settles : (s mid then : State) (old new : Wire) (piece : List ℕ) (taken answer : Result ℕ WireFault) → Takes old s.core piece taken new mid.core
    → SettlesPast s mid taken answer then → TakesAndSettles s old piece answer new then
takes_and_settles s mid then old new piece taken answer takes past = record {
  core = mid.core;
  taken = taken;
  takes = takes;
  settled = past.settled;
  some = λ more. subst (λ (x : State). SettlesOrLacks x past.settled then) past.left (past.some (subst (λ n. n < length mid.core.accepted) (sym past.was) more));
  none = λ few.
      let is = past.none (subst (λ n. length mid.core.accepted ≤ n) (sym past.was) few) in
      let same = same_core s.core mid.core (length s.core.accepted) (length mid.core.accepted) (takes_grow old new s.core mid.core piece taken takes) refl refl few in
      (is.0, is.1 ∙ past.left ∙ left_same s mid.core same);
  told = past.told;
}

-- ---- without the lock

-- what needs no replica is as over any one
pub feeds_without : {names : ReplicaNames} {preserve : Bool} {old new : Wire} {piece : List ℕ} {answer : Result ℕ WireFault} → ((r : Replica)
    → Takes old r piece answer new r)
    → Feeds names preserve old piece answer new
feeds_without {names = names} {preserve = preserve} {answer = answer} takes =
    let any : Replica = record (new_over names.tables names.source names.base 1 preserve) { keeps = names.keeps } in
    record { before = any; named = (refl, refl, refl, refl, refl); core = any; taken = answer; takes = takes any; told = inl refl; bytes = refl }

-- a list that is told to be empty
pub is_none : (told list : List Record) (b : Bool) → told ≡ list → b ≡ nat_eq (length told) 0 → b ≡ true → list ≡ []
is_none [] list b same is empty = sym same
is_none (x ∷ told) list b same is empty = let e = eqb-true (length (x ∷ told)) 0 (sym is ∙ empty) in absurd (omega arith)

-- no record is whole
pub none_whole : (old new : Wire) (r : Replica) (piece : List ℕ) → old.waiting ≡ [] → Gathers old piece new → new.waiting ≡ [] → Takes old r piece (Ok 0) new r
none_whole old new r piece none g empty =
    hands_take old new new r r piece (Ok 0) none g (record {
      source = refl;
      is = (subst (λ (l : List Record). HandsAll new.source r l r) (sym empty) (record { taken = tt; left = refl }), ap (λ (l : List Record). length l) (sym empty), empty);
      rest = refl;
    })

-- nothing is taken
pub none_taken : (old new : Wire) (r : Replica) (piece : List ℕ) (fault : CodecFault) → old.waiting ≡ [] → IsCodecCause old piece fault → new ≡ old → Takes old r piece (Err (wire.Codec fault)) new r
none_taken old new r piece fault none cause same =
    takes_nothing old old new r r piece 0 fault
    (record {
      source = refl;
      is = (subst (λ (l : List Record). HandsAll old.source r l r) (sym none) (record { taken = tt; left = refl }), ap (λ (l : List Record). length l) (sym none), none);
      rest = refl;
    })
    cause same
