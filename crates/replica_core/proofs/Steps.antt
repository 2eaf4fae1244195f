-- What a replica keeps, as each call leaves its parts.
use Rattle.std.proofs.Common.{◌≡◌, ◌∙◌, sym, ap, subst, refl, ℕ, ◌+◌, ◌-◌, ◌<◌, ◌≤◌, ◌^◌, max, ◌⊎◌, ◌↔◌, inl, inr, Bool, true, false, not, true≢false, ◌&&◌, ◌||◌, eqb, List, [], ◌∷◌, ◌++◌, map}
use Rattle.std.proofs.Common.{length, drop, Option, Some, None, is_some, Result, Ok, Err, IfOk, OnErr, IsErrOf, IsErrAnd, arith, slice_get, if◌then◌else◌, nat_le, nat_lt}
use Rattle.std.specs.List.{position_or_len, remove}
use Rattle.std.specs.Map.{keys_of}
use Rattle.std.specs.Option.{option_and_then, option_map, option_map_or, option_or}
use Rattle.std.proofs.lemmas.Bool.{and_parts, or_cases, cases_Bool, cases_lt, ltb-true, leb-true, le-leb}
use Rattle.std.proofs.lemmas.Option.{none-some, same_Some, option_and_then_some, slice_get-map, slice_get_within}
use Rattle.std.proofs.lemmas.List.{length-map, length_push}
use Rattle.schema.specs.declared.Memory.{Memory}
use Rattle.schema.specs.declared.Table.{Table}
use Rattle.schema.proofs.Telling.{not_some}
use Rattle.schema.proofs.Lists.{option_map_or_true, get_within}
use Rattle.rows.specs.Database.{Database, NoValueTwice}
use Rattle.store_trait.specs.Batch.{Entry, put_batch}
use Rattle.store_trait.specs.Operation.{loaded}
use Rattle.store_trait.specs.declared.Op.{Op}
use Rattle.store_trait.specs.declared.Op.TheVariants.{Commit}
use Rattle.record_codec.specs.declared.records.Record.{Record}
use Rattle.executor.specs.declared.Job.{Job}
use Rattle.executor.specs.declared.Outcome.{Outcome}
use Rattle.executor.specs.declared.Outcome.TheVariants.{Output}
use Rattle.executor.specs.Job.{Finished, IsResult, output_of}
use Rattle.relay.specs.declared.ReplicaFault.{ReplicaFault}
use Rattle.relay.specs.declared.ReplicaFault.TheVariants.{Stopped, Stranger, Double, Memory as NoMemory}
use Rattle.relay.specs.declared.Received.{Received}
use Rattle.relay.specs.declared.Received.TheVariants.{Accepted, Skipped}
use Rattle.relay.specs.Relay as relay
use Rattle.relay.specs.Relay.{IsAcceptable, AreAcceptable}
use Rattle.relay.proofs.Acceptable.{next_is_acceptable, few_acceptable}
use Rattle.relay.proofs.Judged.{accepts_the_acceptable}
use Rattle.row_index.specs.Keys.{Keys, Indexes, marks_at, moved}
use Rattle.gone_records.specs.Going.{MayBeGone}
use Rattle.scheduler.specs.Gnos.{has_gno, first_gnos}
use Rattle.scheduler.specs.Marks.{Marks, is_committed, none_committed}
use Rattle.scheduler.proofs.Gnos.{first_gnos-next, low_rises, below_low}
use Rattle.commit_order.specs.Turns.{Line, no_turns, entered, with_result, turn, passed}
use Rattle.commit_order.proofs.Lines.{turn_has, turn_waits, turn_free, turn_kept}
use Rattle.replica_core.specs.Replica.{Replica, low_water, job_over, job_of}
use Rattle.replica_core.specs.Sound.{IsUnderWay, ShowsGapped}
use Rattle.replica_core.specs.Calls.{new_over, relay_of, is_near, is_eligible, finish_fault, dispatched_next, with_finished, next_commit, with_commit}
use Rattle.replica_core.specs.declared.dispatching.HandedOut.{HandedOut}
use Rattle.replica_core.specs.Core.{Holds, ArePartsOf, IsTaken, Parts, commits_seen, seen_as, kept_of, turn_rows, CommitsTurn, LeavesTurn, TakesTurn, IsJudged, place_in}
use Rattle.replica_core.proofs.Jobs.{job_at, job_is_of_its_record}
use Rattle.replica_core.proofs.InOrder.{low_in_order}
use Rattle.replica_core.proofs.Lists.{place-map, place_there}
use Rattle.replica_core.proofs.Kept.{holds, IsNext, shows_gapped, finished_under_way, kept_new, kept_accepted, kept_dispatched, kept_finished, kept_committed, next_in_turn}
use Rattle.replica_core.proofs.Kept.{out_under_way}

-- ---- numbers fit

-- the numbers of accepted records are below 2 ^ 63, so there are fewer
pub few_accepted : (ts : List Table) (log : List Record) → AreAcceptable ts log → length log < 2 ^ 63
few_accepted = few_acceptable

-- ---- answers

-- the causes for which a result is refused, one after another
abbrev pub cause : Option ℕ → Bool → Bool → Option ReplicaFault
cause stopped known out =
    option_or (option_map_or (λ gno. Some (Stopped gno)) stopped None) (if not known then Some Stranger else if not out then Some Double else None)

pub judged_err : (r : Replica) (done : Finished) (told : ReplicaFault) (result : Result ℕ ReplicaFault) → IsErrAnd result (λ e. e ≡ told) → finish_fault r done.job.gno ≡ Some told →
    IsJudged r done result
judged_err r done told (Ok u) is fault = absurd is
judged_err r done told (Err e) is fault = inl (fault ∙ ap Some (sym is))

-- where there is no cause to refuse a result the replica runs, and its record was dispatched and is out
pub no_cause : (stopped : Option ℕ) (known out : Bool) → cause stopped known out ≡ None → (stopped ≡ None) × (known ≡ true) × (out ≡ true)
no_cause None true true is = (refl, refl, refl)
no_cause _ _ _ is = absurd (cc (is))

-- a result that nothing refuses is of a record that is out
pub out_from : (r : Replica) (gno : ℕ) → finish_fault r gno ≡ None → has_gno r.out gno ≡ true
out_from r gno is = (no_cause r.stopped (nat_le 1 gno && nat_le gno r.dispatched) (has_gno r.out gno) is).2

-- ---- the parts

-- a replica whose relay is this; and whose scheduler, whose list of commits and whose line are these
abbrev with_relay : Replica → relay.Relay → Replica
with_relay r v = record r { tables = v.tables; source = v.source; accepted = v.accepted }

abbrev relay_with : Replica → ℕ → relay.Relay
relay_with r gone = record (relay_of r) { gone = gone }

abbrev pub with_parts : Replica → Marks → List ℕ → Line → Replica
with_parts r marks order line = record r {
  preserve = line.preserve;
  commits = commits_seen line.preserve marks.low order;
  dispatched = length (commits_seen line.preserve marks.low order) + (length line.out + length line.done);
  out = line.out;
  finished = map (λ (result : Finished). result.job.gno) line.done;
}

-- a relay that lets records go is seen as before
pub gone_seen : (r : Replica) {gone upto : ℕ} {left : relay.Relay} → relay.LetsGo upto (relay_with r gone) left → with_relay r left ≡ r
gone_seen r goes = λ i. record r { tables = goes.tables i; source = goes.source i; accepted = goes.accepted i }

-- and none is gone that is past the mark
still_within : (keeps : Bool) (gone low low_then gone_then : ℕ) → MayBeGone keeps gone low → low ≤ low_then → gone_then ≤ max gone (if keeps then 0 else low_then) → MayBeGone keeps gone_then low_then
still_within true gone low low_then gone_then kept rises goes = let none = kept.none refl in record { within = omega arith; none = λ _. omega arith }
still_within false gone low low_then gone_then kept rises goes = let within = kept.within in record { within = omega arith; none = λ keeps. cc }

none_seen : (preserve : Bool) → commits_seen preserve 0 [] ≡ []
none_seen true = refl
none_seen false = refl

-- what is answered, where memory did not run out in its place
pub answered : (result told : Result Received ReplicaFault) → (IsErrOf result NoMemory ⊎ (result ≡ told)) → IfOk result (λ answer. told ≡ Ok answer)
answered (Err fault) told h = tt
answered (Ok answer) told (inl lacks) = cc
answered (Ok answer) told (inr is) = sym is

module _ {r : Replica} {marks : Marks} {line : Line} {handed : List HandedOut} {rows : Database} {keys : Keys} {ops : List Op} (h : ArePartsOf r marks line handed rows keys ops) where
  length_outs : length line.out ≡ length r.out
  length_outs = ap (λ (l : List ℕ). length l) h.turned.out

  length_dones : length line.done ≡ length r.finished
  length_dones = sym (length-map line.done (λ (result : Finished). result.job.gno)) ∙ ap (λ (l : List ℕ). length l) h.turned.done

module _ {r : Replica} {marks : Marks} {line : Line} {handed : List HandedOut} {rows : Database} {keys : Keys} {ops : List Op} (order : List ℕ) (h : ArePartsOf r marks line handed rows keys ops)
    (seen : commits_seen line.preserve marks.low order ≡ r.commits) where
  -- the parts are seen as the replica whose parts they are
  pub as_parts : with_parts r marks order line ≡ r
  as_parts =
      let commits = ap (λ (l : List ℕ). length l) seen in
      let count : length (commits_seen line.preserve marks.low order) + (length line.out + length line.done) ≡ r.dispatched =
      omega (arith, h.counted.counted, commits, length_outs h, length_dones h) in
      λ i. record r { preserve = h.turned.preserve i; commits = seen i; dispatched = count i; out = h.turned.out i; finished = h.turned.done i }

  pub parts_kept : ArePartsOf (with_parts r marks order line) marks line handed rows keys ops
  parts_kept = subst (λ (q : Replica). ArePartsOf q marks line handed rows keys ops) (sym as_parts) h

-- ---- a replica that has accepted nothing

-- the parts that it is made of
pub record AreNew (preserve : Bool) (marks : Marks) (order : List ℕ) (line : Line) (handed : List HandedOut) (ops : List Op) : Type 0 where
  pub marks_are : marks ≡ none_committed
  pub order_is : order ≡ []
  pub line_is : line ≡ no_turns preserve
  pub handed_is : handed ≡ []
  pub ops_are : ops ≡ []

module _ (v : relay.Relay) (base : List Entry) (workers : ℕ) (preserve : Bool) (marks : Marks) (order : List ℕ) (line : Line) (handed : List HandedOut) (rows : Database) (keys : Keys)
    (ops : List Op) where
  pub new_seen : AreNew preserve marks order line handed ops → v.accepted ≡ [] → seen_as v base marks order 0 line workers None true ≡ new_over v.tables v.source base workers preserve
  new_seen are none =
      rw (are.marks_are, are.order_is, are.line_is, none)
      (ap (λ (l : List ℕ). record (new_over v.tables v.source base workers preserve) { commits = l; dispatched = length l + 0 }) (none_seen preserve))

  pub new_kept : AreNew preserve marks order line handed ops → v.accepted ≡ [] → NoValueTwice v.tables rows → loaded base ≡ rows →
      (NoValueTwice v.tables (loaded base) → Indexes v.tables (loaded base) keys) → 1 ≤ workers → workers ≤ 64 →
      ArePartsOf (seen_as v base marks order 0 line workers None true) marks line handed rows keys ops
  new_kept are none apart loads indexed some few =
      subst (λ (q : Replica). ArePartsOf q marks line handed rows keys ops) (sym (new_seen are none))
      (rw (are.marks_are, are.line_is, are.handed_is, are.ops_are) (kept_new v.tables v.source base workers preserve rows keys apart loads indexed some few))

-- ---- the parts that each call leaves

-- in the order of the log the list of the commits stays empty, and they are those up to the mark; else one more is the last
commits_then : (preserve : Bool) (low low_then : ℕ) (order : List ℕ) (gno : ℕ) → (preserve ≡ true → (gno ≡ low + 1) × (low_then ≡ low + 1)) →
    commits_seen preserve low_then (if preserve then order else order ++ gno ∷ []) ≡ commits_seen preserve low order ++ gno ∷ []
commits_then true low low_then order gno h =
    let is = h refl in
    ap first_gnos is.1 ∙ first_gnos-next low ∙ ap (λ (n : ℕ). first_gnos low ++ n ∷ []) (sym is.0)
commits_then false low low_then order gno h = refl

-- a place is near, or no worker is free
any_order : (parent near worker : Bool) (always : Bool) → (always ≡ true → worker ≡ true → near ≡ true) → ((parent && near) && worker) ≡ ((parent && worker) && (always || near))
any_order parent near worker always h = grind arith

module _ {r : Replica} {marks : Marks} {line : Line} {handed : List HandedOut} {rows : Database} {keys : Keys} {ops : List Op} (h : ArePartsOf r marks line handed rows keys ops) where
  -- ---- receive

  -- whatever is refused, and whether the record is given back with it; no more records are gone then
  pub received_kept : {E : Type 0} {gone : ℕ} (from : List ℕ) (new : Record) (result : Result Received E) (left : relay.Relay) → MayBeGone r.keeps gone marks.low →
      IfOk result (λ answer. relay.received (relay_with r gone) from new ≡ Ok answer) →
      IfOk result (λ answer. left ≡ relay.left_by_receive (relay_with r gone) new answer) → OnErr result (left ≡ relay_with r gone) →
      Holds (with_relay r left) left.gone marks line handed rows keys ops
  received_kept from new (Err refused) left kept answer ok err =
      subst (λ (v : relay.Relay). Holds (with_relay r v) v.gone marks line handed rows keys ops) (sym err) (holds h kept)
  received_kept from new (Ok Skipped) left kept answer ok err =
      subst (λ (v : relay.Relay). Holds (with_relay r v) v.gone marks line handed rows keys ops) (sym ok) (holds h kept)
  received_kept {gone = gone} from new (Ok Accepted) left kept answer ok err =
      let next : IsAcceptable r.tables r.accepted new = ((accepts_the_acceptable (relay_with r gone) from new).0 answer).1 in
      subst (λ (v : relay.Relay). Holds (with_relay r v) v.gone marks line handed rows keys ops) (sym ok)
      (holds (kept_accepted h new (next_is_acceptable r.tables r.accepted new h.log.acceptable next)) kept)

  -- ---- let_go

  -- some of them went
  pub gone_then : {gone low : ℕ} → MayBeGone r.keeps gone low → low ≤ marks.low → (left : relay.Relay) → relay.LetsGo (if r.keeps then 0 else marks.low) (relay_with r gone) left →
      Holds (with_relay r left) left.gone marks line handed rows keys ops
  gone_then {gone = gone} {low = low} kept rises left goes =
      holds (subst (λ (q : Replica). ArePartsOf q marks line handed rows keys ops) (sym (gone_seen r goes)) h) (still_within r.keeps gone low marks.low left.gone kept rises goes.within)

  -- ---- dispatch

  -- in the order of the log a place is near wherever a worker is free
  near_in_order : r.preserve ≡ true → r.dispatched - length r.commits < r.workers → r.dispatched + 1 ≤ low_water r + 4096
  near_in_order preserve free = omega (arith, low_in_order r (h.counted.in_turn preserve), h.set_up.few)

  -- the line has as many as were dispatched and are not committed
  length_line : length line.out + length line.done ≡ r.dispatched - length r.commits
  length_line = omega (arith, h.counted.counted, length_outs h, length_dones h)

  -- whether the next record may be dispatched, as it is tested
  pub eligible_seen : (next : Record) (count : ℕ) (may free : Bool) → slice_get r.accepted r.dispatched ≡ Some next → count ≡ r.dispatched →
      may ≡ (nat_le next.parent marks.low && nat_le (count + 1) (marks.low + 4096)) → free ≡ nat_lt (length line.out + length line.done) r.workers → (may && free) ≡ is_eligible r
  eligible_seen next count may free got number may_is free_is =
      (λ i. may_is i && free_is i)
      ∙ (λ i. (nat_le next.parent (h.counted.low i) && nat_le (number i + 1) (h.counted.low i + 4096)) && nat_lt (length_line i) r.workers)
      ∙ any_order (nat_le next.parent (low_water r)) (nat_le (r.dispatched + 1) (low_water r + 4096)) (nat_lt (r.dispatched - length r.commits) r.workers) r.preserve
      (λ preserve free. le-leb (r.dispatched + 1) (low_water r + 4096) (near_in_order preserve (ltb-true (r.dispatched - length r.commits) r.workers free)))
      ∙ ap (λ (o : Option Record). option_map_or (λ rec. nat_le rec.parent (low_water r)) o false && nat_lt (r.dispatched - length r.commits) r.workers && is_near r) (sym got)

  pub eligible_next : is_eligible r ≡ true → (rec : Record) × IsNext r rec
  eligible_next is =
      let next = λ (rec : Record). nat_le rec.parent (low_water r) in
      let both = and_parts (option_map_or next (slice_get r.accepted r.dispatched) false && nat_lt (r.dispatched - length r.commits) r.workers) (is_near r) is in
      let parts = and_parts (option_map_or next (slice_get r.accepted r.dispatched) false) (nat_lt (r.dispatched - length r.commits) r.workers) both.0 in
      let found = option_map_or_true next (slice_get r.accepted r.dispatched) parts.0 in
      let free = ltb-true (r.dispatched - length r.commits) r.workers parts.1 in
      let near : r.dispatched + 1 ≤ low_water r + 4096 = elim (or_cases r.preserve (nat_le (r.dispatched + 1) (low_water r + 4096)) both.1) [
        | inl preserve ↦ near_in_order preserve free
        | inr near ↦ leb-true (r.dispatched + 1) (low_water r + 4096) near
      ] in
      (found.0, record { got = found.1; parent = leb-true found.0.parent (low_water r) found.2; free = free; near = near })

  pub eligible_within : is_eligible r ≡ true → r.dispatched < length r.accepted
  eligible_within is = let next = eligible_next is in slice_get_within r.accepted r.dispatched next.0 next.1.got

  -- its job is made of its record
  pub made_of_next : (made : Result Job Memory) (count : ℕ) (next : Record) (schema : List Table) → count ≡ r.dispatched → slice_get r.accepted r.dispatched ≡ Some next → schema ≡ r.tables →
      IfOk made (λ job. job ≡ job_over schema (count + 1) next rows) → IfOk made (λ job. job_of r (r.dispatched + 1) ≡ Some job)
  made_of_next (Err lacks) count next schema number got tables is = tt
  made_of_next (Ok job) count next schema number got tables is =
      let place : (r.dispatched + 1) - 1 ≡ r.dispatched = omega arith in
      job_at r (r.dispatched + 1) next rows (ap (slice_get r.accepted) place ∙ got) h.log.rows_are
      ∙ (λ i. Some (job_over (sym tables i) (sym number i + 1) next rows)) ∙ ap Some (sym is)

  pub dispatched_kept : (job : Job) (line_then : Line) (handed_then : List HandedOut) → is_eligible r ≡ true → job_of r (r.dispatched + 1) ≡ Some job →
      line_then ≡ entered line job.gno → handed_then ≡ handed ++ kept_of job ∷ [] → ArePartsOf (dispatched_next r) marks line_then handed_then rows keys ops
  dispatched_kept job line_then handed_then may made is_line is_handed =
      let next = eligible_next may in
      let number = (job_is_of_its_record r (r.dispatched + 1) job made).gno in
      rw (is_line ∙ ap (entered line) number, is_handed) (kept_dispatched h next.0 job next.1 made)

  -- ---- what is kept of a job that is out

  kept_gno : (gno : ℕ) (kept : HandedOut) (o : Option Job) → o ≡ job_of r gno → Some kept ≡ option_map kept_of o → kept.gno ≡ gno
  kept_gno gno kept None is same = absurd (none-some kept (sym same))
  kept_gno gno kept (Some job) is same = ap (λ (k : HandedOut). k.gno) (same_Some kept (kept_of job) same) ∙ (job_is_of_its_record r gno job (sym is)).gno

  kept_gnos : (kept : List HandedOut) (out : List ℕ) → map Some kept ≡ map (λ gno. option_map kept_of (job_of r gno)) out → map (λ (k : HandedOut). k.gno) kept ≡ out
  kept_gnos [] [] same = refl
  kept_gnos [] (gno ∷ out) same = cc
  kept_gnos (k ∷ kept) [] same = cc
  kept_gnos (k ∷ kept) (gno ∷ out) same =
      let first : Some (Some k) ≡ Some (option_map kept_of (job_of r gno)) = ap (λ (l : List (Option HandedOut)). slice_get l 0) same in
      let rest : map Some kept ≡ map (λ n. option_map kept_of (job_of r n)) out = ap (λ (l : List (Option HandedOut)). drop 1 l) same in
      λ i. kept_gno gno k (job_of r gno) refl (same_Some (Some k) (option_map kept_of (job_of r gno)) first) i ∷ kept_gnos kept out rest i

  pub place_seen : (gno : ℕ) → position_or_len (λ (k : HandedOut). eqb k.gno gno) handed ≡ place_in r.out gno
  place_seen gno = place-map (λ (k : HandedOut). k.gno) gno handed ∙ ap (λ (l : List ℕ). place_in l gno) (kept_gnos handed r.out h.kept)

  pub kept_there : (gno place : ℕ) → has_gno r.out gno ≡ true → place ≡ place_in r.out gno → slice_get handed place ≡ option_map kept_of (job_of r gno)
  kept_there gno place out at = of_some (slice_get handed place) (option_map kept_of (job_of r gno))
      (sym (slice_get-map Some handed place)
      ∙ ap (λ (l : List (Option HandedOut)). slice_get l place) h.kept
      ∙ slice_get-map (λ n. option_map kept_of (job_of r n)) r.out place
      ∙ ap (λ (n : ℕ). option_map (λ g. option_map kept_of (job_of r g)) (slice_get r.out n)) at
      ∙ ap (option_map (λ n. option_map kept_of (job_of r n))) (place_there r.out gno out))
    where
      of_some : (a b : Option HandedOut) → option_map Some a ≡ Some b → a ≡ b
      of_some None b is = absurd (none-some b is)
      of_some (Some k) b is = same_Some (Some k) b is

  -- a job is the one that was handed out exactly where its record is that of its number, and it has what is kept
  pub handed_is : (job : Job) (place : ℕ) (rec : Record) (kept : HandedOut) (schema : List Table) (told : Type 0) → has_gno r.out job.gno ≡ true →
      place ≡ place_in r.out job.gno → slice_get r.accepted (job.gno - 1) ≡ Some rec → slice_get handed place ≡ Some kept → schema ≡ r.tables →
      (told ↔ ((job.rec ≡ rec) × (job.input ≡ kept.input) × (job.holders ≡ kept.holders) × (job.schema ≡ schema))) → told ↔ (job_of r job.gno ≡ Some job)
  handed_is job place rec kept schema told out at got there tables tells =
      let made = job_over r.tables job.gno rec rows in
      let now : job_of r job.gno ≡ Some made = job_at r job.gno rec rows got h.log.rows_are in
      let same : kept ≡ kept_of made =
      same_Some kept (kept_of made) (sym there ∙ kept_there job.gno place out at ∙ ap (option_map kept_of) now) in (
        λ is.
            let parts = tells.0 is in
            let input : made.input ≡ job.input = ap (λ (k : HandedOut). k.input) (sym same) ∙ sym parts.1 in
            let holders : made.holders ≡ job.holders = ap (λ (k : HandedOut). k.holders) (sym same) ∙ sym parts.2 in
            now ∙ (λ i. Some (record { gno = job.gno; rec = sym parts.0 i; input = input i; holders = holders i; schema = (sym tables ∙ sym parts.3) i })),
        λ is. tells.1 (
            subst (λ (j : Job). (j.rec ≡ rec) × (j.input ≡ kept.input) × (j.holders ≡ kept.holders) × (j.schema ≡ schema)) (same_Some made job (sym now ∙ is))
            (refl, ap (λ (k : HandedOut). k.input) (sym same), ap (λ (k : HandedOut). k.holders) (sym same), sym tables)
            ),
      )

  -- it is past the mark, so its record is kept
  past_mark : (gno : ℕ) → IsUnderWay r gno → marks.low < gno
  past_mark gno under = elim (cases_lt marks.low gno) [
    | inl past ↦ past
    | inr before ↦ absurd (true≢false (sym (below_low r.commits gno under.0 (omega (arith, h.counted.low))) ∙ under.2))
  ]

  pub record_kept : {gone : ℕ} (gno : ℕ) → MayBeGone r.keeps gone marks.low → has_gno r.out gno ≡ true → gone ≤ gno - 1
  record_kept gno kept out =
      let past = past_mark gno (out_under_way h gno out) in
      omega (arith, kept.within)

  -- its record is one of those accepted
  pub record_within : (gno : ℕ) → has_gno r.out gno ≡ true → gno - 1 < length r.accepted
  record_within gno out = let under = out_under_way h gno out in omega (arith, under.0, under.1, h.within)

  -- and it is kept there
  pub place_within : (gno place : ℕ) → has_gno r.out gno ≡ true → place ≡ place_in r.out gno → place < length handed
  place_within gno place out at =
      let got = get_within r.accepted (gno - 1) (record_within gno out) in
      slice_get_within handed place (kept_of (job_over r.tables gno got.0 rows))
      (kept_there gno place out at ∙ ap (option_map kept_of) (job_at r gno got.0 rows got.1 h.log.rows_are))

  -- ---- finish

  pub judged_within : (result : Finished) (place : ℕ) → IsJudged r result (Ok place) → place < length handed
  judged_within result place judged = place_within result.job.gno place (out_from r result.job.gno judged.0) judged.2

  pub finished_kept : (result : Finished) (left : List Entry) (place : ℕ) (line_then : Line) (handed_then : List HandedOut) → IsJudged r result (Ok place) → IsResult result →
      result.outcome ≡ Output left → line_then ≡ with_result line result → handed_then ≡ remove handed place →
      ArePartsOf (with_finished r result.job.gno) marks line_then handed_then rows keys ops
  finished_kept result left place line_then handed_then judged made is is_line is_handed =
      rw (is_line, is_handed)
      (kept_finished h result place (out_from r result.job.gno judged.0) judged.2 (record { job = judged.1; left = left; output = is; came = made }))

  -- ---- the next commit

  -- whose turn it is, as it is told
  next_is : next_commit r ≡ option_map (λ (result : Finished). result.job.gno) (turn line)
  next_is = elim (cases_Bool r.preserve) [
    | inl preserve ↦
        rw (preserve, ← h.turned.done, ← h.turned.next preserve) (sym (turn_kept line (h.turned.preserve ∙ preserve)))
    | inr free ↦
        rw (free, ← h.turned.done) (sym (turn_free line (h.turned.preserve ∙ free)))
  ]

  -- each result that was taken has rows
  turn_told : (o : Option Finished) → o ≡ turn line →
      option_map (λ (ready : ℕ × List Entry). ready.0) (option_and_then (λ (result : Finished). option_map {U = ℕ × List Entry} (λ left. (result.job.gno, left)) (output_of result.outcome)) o)
      ≡ option_map (λ (result : Finished). result.job.gno) o
  turn_told None is = refl
  turn_told (Some result) is =
      let taken = turn_has (λ (other : Finished). IsTaken (job_of r other.job.gno) other) line result (sym is) h.results in
      ap (λ (outcome : Outcome). option_map (λ (ready : ℕ × List Entry). ready.0) (option_map {U = ℕ × List Entry} (λ left. (result.job.gno, left)) (output_of outcome))) taken.output

  pub next_seen : option_map (λ (ready : ℕ × List Entry). ready.0) (turn_rows line) ≡ next_commit r
  next_seen = turn_told (turn line) refl ∙ sym next_is

  some_of_first : (o : Option (ℕ × List Entry)) → is_some (option_map (λ (ready : ℕ × List Entry). ready.0) o) ≡ is_some o
  some_of_first None = refl
  some_of_first (Some ready) = refl

  pub next_some : is_some (turn_rows line) ≡ is_some (next_commit r)
  next_some = sym (some_of_first (turn_rows line)) ∙ ap is_some next_seen

-- what a turn came to, as it is told
pub commits_of : (ts tables : List Table) (o : Option ℕ) (gno : ℕ) (old new : Parts) → ts ≡ tables → o ≡ Some gno → TakesTurn ts (Ok o) old new → CommitsTurn tables gno old new
commits_of ts tables None gno old new same is put = absurd (none-some gno is)
commits_of ts tables (Some n) gno old new same is put = subst (λ (t : List Table). CommitsTurn t gno old new) same (subst (λ (k : ℕ). CommitsTurn ts k old new) (same_Some n gno is) put)

pub leaves_of : (ts : List Table) (o : Option ℕ) (old new : Parts) → o ≡ None → TakesTurn ts (Ok o) old new → LeavesTurn false old new
leaves_of ts None old new is put = put
leaves_of ts (Some n) old new is put = absurd (none-some n (sym is))

-- no turn came, and what the replica shows stays
module _ {r : Replica} {marks : Marks} {handed : List HandedOut} {old new : Parts} (h : ArePartsOf r marks old.line handed old.rows old.keys old.ops) (put : LeavesTurn false old new) where
  pub none_next : next_commit r ≡ None
  none_next = not_some (next_commit r) (sym (next_some h) ∙ put.there)

  pub still_gapped : commits_seen old.line.preserve marks.low old.order ≡ r.commits → ShowsGapped (with_parts r marks new.order new.line) (length (commits_seen new.line.preserve marks.low new.order))
  still_gapped seen =
      subst (λ (p : Parts). ShowsGapped (with_parts r marks p.order p.line) (length (commits_seen p.line.preserve marks.low p.order))) (sym put.same)
      (shows_gapped (parts_kept old.order h seen) (length (commits_seen old.line.preserve marks.low old.order)) (omega arith))

-- the result whose turn has come
record HasTurn (line : Line) (gno : ℕ) (left : List Entry) : Type 0 where
  result : Finished
  is : turn line ≡ Some result
  output : result.outcome ≡ Output left
  number : result.job.gno ≡ gno

has_rows : (gno : ℕ) (o : Outcome) (told : ℕ × List Entry) → option_map {U = ℕ × List Entry} (λ rows. (gno, rows)) (output_of o) ≡ Some told → (gno ≡ told.0) × (o ≡ Output told.1)
has_rows gno (Output entries) told made = let both = same_Some (gno, entries) told made in (ap (λ (p : ℕ × List Entry). p.0) both, ap (λ (p : ℕ × List Entry). Output p.1) both)
has_rows gno _ told made = absurd (none-some told made)

has_turn : (line : Line) (gno : ℕ) (left : List Entry) → turn_rows line ≡ Some (gno, left) → HasTurn line gno left
has_turn line gno left is =
    option_and_then_some (λ (result : Finished). option_map {U = ℕ × List Entry} (λ rows. (result.job.gno, rows)) (output_of result.outcome)) (turn line) (gno, left) is
    (λ result at made. let both = has_rows result.job.gno result.outcome (gno, left) made in record { result = result; is = at; output = both.1; number = both.0 })

-- the turn of a record: it was dispatched and is not committed, so it is behind the mark, and near it
module _ {r : Replica} {marks : Marks} {handed : List HandedOut} {gno : ℕ} {old new : Parts} (h : ArePartsOf r marks old.line handed old.rows old.keys old.ops)
    (put : CommitsTurn r.tables gno old new) where
  turn_under_way : IsUnderWay r gno
  turn_under_way =
      let now = has_turn old.line gno put.left put.output in
      subst (λ (n : ℕ). IsUnderWay r n) now.number
      (finished_under_way h now.result.job.gno
      (ap (λ (l : List ℕ). has_gno l now.result.job.gno) (sym h.turned.done) ∙ turn_waits old.line now.result now.is))

  pub turn_next : Some gno ≡ next_commit r
  turn_next = ap (option_map (λ (ready : ℕ × List Entry). ready.0)) (sym put.output) ∙ next_seen h

  pub turn_later : marks.low < gno
  turn_later = past_mark h gno turn_under_way

  pub turn_near : gno ≤ marks.low + 4096
  turn_near =
      let under = turn_under_way in
      let got = get_within r.accepted (gno - 1) (omega (arith, under.0, under.1, h.within)) in
      omega (arith, (h.eligible gno got.0 under.0 under.1 got.1).near, h.counted.low)

module _ {r : Replica} {marks : Marks} {handed : List HandedOut} {gno : ℕ} {old new : Parts} (marks_then : Marks) (h : ArePartsOf r marks old.line handed old.rows old.keys old.ops)
    (put : CommitsTurn r.tables gno old new)
    (exact : (g : ℕ) → is_committed marks_then g ≡ (is_committed marks g || eqb g gno)) (greatest : is_committed marks_then (marks_then.low + 1) ≡ false) where
  now : HasTurn old.line gno put.left
  now = has_turn old.line gno put.left put.output

  pub committed_step : ArePartsOf (with_commit r gno) marks_then new.line handed new.rows new.keys new.ops
  committed_step =
      rw (put.line_is, put.rows_are, put.keys_are, put.ops_are)
      (subst (λ (n : ℕ). ArePartsOf (with_commit r n) marks_then (passed old.line) handed (put_batch put.left old.rows)
      (moved r.tables (marks_at r.tables (keys_of put.left) old.rows) put.left old.keys) (old.ops ++ Commit n put.left ∷ [])) now.number
      (kept_committed h now.is now.output marks_then
      (λ g. exact g ∙ ap (λ (n : ℕ). is_committed marks g || eqb g n) (sym now.number)) greatest))

  -- in the order of the log the mark goes up by one
  goes_up : r.preserve ≡ true → (gno ≡ marks.low + 1) × (marks_then.low ≡ marks.low + 1)
  goes_up preserve =
      let next : gno ≡ length r.commits + 1 = sym now.number ∙ next_in_turn h now.is now.output preserve in
      let low : marks.low ≡ length r.commits = h.counted.low ∙ low_in_order r (h.counted.in_turn preserve) in
      let low_then : marks_then.low ≡ length (r.commits ++ gno ∷ []) =
      committed_step.counted.low ∙ low_in_order (with_commit r gno) (committed_step.counted.in_turn preserve) in
      (omega arith, omega (arith, length_push r.commits gno))

  commits_are : commits_seen old.line.preserve marks.low old.order ≡ r.commits → commits_seen new.line.preserve marks_then.low new.order ≡ r.commits ++ gno ∷ []
  commits_are seen =
      (λ i. commits_seen ((put.line_is i).preserve) marks_then.low (put.order_is i))
      ∙ commits_then old.line.preserve marks.low marks_then.low old.order gno (λ preserve. goes_up (sym h.turned.preserve ∙ preserve))
      ∙ ap (λ (l : List ℕ). l ++ gno ∷ []) seen

  pub committed_seen : commits_seen old.line.preserve marks.low old.order ≡ r.commits → with_parts r marks_then new.order new.line ≡ with_commit r gno
  committed_seen seen = as_parts new.order committed_step (commits_are seen)

  pub committed_kept : commits_seen old.line.preserve marks.low old.order ≡ r.commits → ArePartsOf (with_parts r marks_then new.order new.line) marks_then new.line handed new.rows new.keys new.ops
  committed_kept seen = parts_kept new.order committed_step (commits_are seen)

  pub committed_gapped : commits_seen old.line.preserve marks.low old.order ≡ r.commits →
      ShowsGapped (with_parts r marks_then new.order new.line) (length (commits_seen new.line.preserve marks_then.low new.order))
  committed_gapped seen =
      shows_gapped (committed_kept seen) (length (commits_seen new.line.preserve marks_then.low new.order)) (omega arith)

  -- the mark goes no lower
  pub mark_rises : marks.low ≤ marks_then.low
  mark_rises = omega (arith, h.counted.low, committed_step.counted.low, low_rises r.commits (gno ∷ []))

pub not_eligible : (r : Replica) → slice_get r.accepted r.dispatched ≡ None → false ≡ is_eligible r
not_eligible r none =
    ap (λ (o : Option Record). option_map_or (λ rec. nat_le rec.parent (low_water r)) o false && nat_lt (r.dispatched - length r.commits) r.workers && is_near r) (sym none)
