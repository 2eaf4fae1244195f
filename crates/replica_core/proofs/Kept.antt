-- What a replica keeps, at each of its steps.
use Rattle.std.proofs.Common.{◌≡◌, ◌∙◌, sym, ap, subst, refl, true≢false, ℕ, ◌+◌, ◌-◌, ◌<◌, ◌≤◌, Bool, true, false, ◌&&◌, ◌||◌, nat_le, eqb, if◌then◌else◌, inl, inr, List, [], ◌∷◌, ◌++◌, map, length}
use Rattle.std.proofs.Common.{◌^◌, drop, Option, Some, arith, slice_get}
use Rattle.std.specs.List.{remove}
use Rattle.std.specs.Map.{keys_of}
use Rattle.std.specs.Option.{option_map}
use Rattle.std.proofs.lemmas.Bool.{cases_lt, and_parts, leb-true}
use Rattle.std.proofs.lemmas.Bool.Decides.{nat_tests}
use Rattle.std.proofs.lemmas.Option.{same_Some, slice_get_within}
use Rattle.std.proofs.lemmas.List.{map-append, length_push, length-drop, drop-drop}
use Rattle.schema.specs.declared.Table.{Table}
use Rattle.rows.specs.Database.{Database, NoValueTwice}
use Rattle.store_trait.specs.Batch.{Entry, put_batch}
use Rattle.store_trait.specs.Operation.{loaded}
use Rattle.store_trait.specs.declared.Op.{Op}
use Rattle.store_trait.specs.declared.Op.TheVariants.{Commit}
use Rattle.record_codec.specs.declared.records.Record.{Record}
use Rattle.executor.specs.declared.Job.{Job}
use Rattle.executor.specs.Job.{Finished}
use Rattle.executor.specs.declared.Outcome.TheVariants.{Output}
use Rattle.row_index.specs.Keys.{Keys, Indexes, marks_at, moved}
use Rattle.row_index.proofs.Keys.{keys_follow}
use Rattle.relay.specs.Relay.{AreAcceptable}
use Rattle.relay.proofs.Acceptable.{empty_is_acceptable, few_acceptable}
use Rattle.scheduler.specs.Gnos.{has_gno, without, first_gnos, AreDistinct}
use Rattle.scheduler.specs.Marks.{Marks, is_committed, none_committed}
use Rattle.scheduler.proofs.Gnos.{has_gno_front, has_gno_behind, distinct_apart_behind, AreDistinct_behind, has_gno-without_same, has_gno_of_without, length-without, distinct_entered, has_gno_entered}
use Rattle.scheduler.proofs.Gnos.{distinct_moved_behind, has_gno_moved_behind, distinct_moved_front, has_gno_moved_front, first_gnos-next, low_is_few, AreDistinct_front}
use Rattle.scheduler.proofs.Marks.{none_is_committed, low_of_marks, marks_of_more}
use Rattle.commit_order.specs.Turns.{Line, no_turns, entered, with_result, turn, passed}
use Rattle.commit_order.proofs.Lines.{gnos_of, turn_has, turn_waits, turn_is_next, gnos-with_result, gnos-passed, all_with_result, all_passed}
use Rattle.gone_records.specs.Going.{MayBeGone}
use Rattle.gapped.proofs.Choosing.{no_commits, commits_are_within, length_records_at}
use Rattle.replica_core.specs.Replica.{Replica, low_water, ran, job_of, waiting, commits_from}
use Rattle.replica_core.specs.Sound.{IsSound, IsUnderWay, IsEligible, ShowsGapped}
use Rattle.replica_core.specs.Calls.{new_over, letting_go, with_accepted, dispatched_next, with_finished, stopped_at, with_commit, with_published}
use Rattle.replica_core.specs.Core.{Holds, IsTaken, IsLogKept, IsCounted, ArePartsOf, kept_of, place_in}
use Rattle.replica_core.specs.declared.dispatching.HandedOut.{HandedOut}
use Rattle.replica_core.proofs.Commits.{one_commit_each}
use Rattle.replica_core.proofs.Showing.{Stands, numbered_of, rows_of_ran, published_is_gapped}
use Rattle.replica_core.proofs.InOrder.{in_order_of, low_in_order}
use Rattle.replica_core.proofs.Jobs.{StepsOn, commit_step, AcceptsOn, accept_step}
use Rattle.replica_core.proofs.Lists.{same_each, all_each, remove-map}

-- a result that was taken stays one of its job
pub of_same_job : {one other : Option Job} {result : Finished} → one ≡ other → IsTaken one result → IsTaken other result
of_same_job {result = result} same = subst (λ job. IsTaken job result) same

-- the next record may be dispatched: it is there, its parent is committed, a worker is free, and its number is near the low-water mark
pub record IsNext (r : Replica) (rec : Record) : Type 0 where
  pub got : slice_get r.accepted r.dispatched ≡ Some rec
  pub parent : rec.parent ≤ low_water r
  pub free : r.dispatched - length r.commits < r.workers
  pub near : r.dispatched + 1 ≤ low_water r + 4096

-- ---- numbers of those that are dispatched

past_all : (n : ℕ) → (nat_le 1 (n + 1) && nat_le (n + 1) n) ≡ false
past_all n = grind (arith, nat_tests)

up_to_next : (n gno : ℕ) → ((nat_le 1 gno && nat_le gno n) || eqb (n + 1) gno) ≡ (nat_le 1 gno && nat_le gno (n + 1))
up_to_next n gno = grind (arith, nat_tests)

-- ---- a replica that has accepted nothing

pub kept_new : (ts : List Table) (source : List ℕ) (base : List Entry) (workers : ℕ) (preserve : Bool) (rows : Database) (keys : Keys) → NoValueTwice ts rows → loaded base ≡ rows →
    (NoValueTwice ts (loaded base) → Indexes ts (loaded base) keys) → 1 ≤ workers → workers ≤ 64 →
    ArePartsOf (new_over ts source base workers preserve) none_committed (no_turns preserve) [] rows keys []
kept_new ts source base workers preserve rows keys values_apart loads indexed some few = record {
  set_up = record { some = some; few = few };
  log = record {
    acceptable = empty_is_acceptable ts;
    commits = no_commits ts (loaded base) [];
    rows_are = ap Some loads;
    apart = apart;
    indexed = subst (λ (db : Database). Indexes ts db keys) loads (indexed apart);
    published = omega arith;
    ops_are = refl;
  };
  turned = record { preserve = refl; next = λ _. refl; out = refl; done = refl };
  within = omega arith;
  counted = record {
    counted = refl;
    busy = omega arith;
    distinct = tt;
    each = λ gno. grind (arith, nat_tests);
    marked = λ gno low. none_is_committed gno ∙ grind (arith, nat_tests);
    low = refl;
    in_turn = λ _. refl;
  };
  eligible = λ gno rec low high got. absurd (omega arith);
  kept = refl;
  results = tt;
}
  where
    apart : NoValueTwice ts (loaded base)
    apart = subst (NoValueTwice ts) (sym loads) values_apart

module _ {r : Replica} {marks : Marks} {line : Line} {handed : List HandedOut} {rows : Database} {keys : Keys} {ops : List Op} (h : ArePartsOf r marks line handed rows keys ops) where
  pub stands : Stands r
  stands = record { acceptable = h.log.acceptable; commits = h.log.commits; apart = h.log.apart; eligible = h.eligible }

  pub kept_sound : IsSound r
  kept_sound = record {
    accepted = h.log.acceptable;
    commits = h.log.commits;
    distinct = h.counted.distinct;
    each = h.counted.each;
    published = h.log.published;
    dispatched = h.within;
    counted = h.counted.counted;
    busy = h.counted.busy;
    some = h.set_up.some;
    few = h.set_up.few;
    rows = rows;
    rows_are = h.log.rows_are;
    apart = h.log.apart;
    eligible = h.eligible;
    in_order = λ preserve. in_order_of r stands (h.counted.in_turn preserve);
  }

  few_dispatched : r.dispatched < 2 ^ 63
  few_dispatched = omega (arith, few_acceptable r.tables r.accepted h.log.acceptable, h.within)

  pub low_dispatched : marks.low ≤ r.dispatched
  low_dispatched = omega (arith, low_is_few r.commits (AreDistinct_front r.commits (r.out ++ r.finished) h.counted.distinct), h.counted.low, h.counted.counted)

  low_in_turn : r.preserve ≡ true → marks.low ≡ length r.commits
  low_in_turn preserve = h.counted.low ∙ low_in_order r (h.counted.in_turn preserve)

  pub holds : {gone : ℕ} → MayBeGone r.keeps gone marks.low → Holds r gone marks line handed rows keys ops
  holds kept = record { parts = h; kept = kept; sound = kept_sound; fits = few_dispatched; low_within = low_dispatched; low_in_turn = low_in_turn }

  -- ---- which records are where

  -- each that is committed, out or finished was dispatched
  dispatched_has : (gno : ℕ) → has_gno (r.commits ++ (r.out ++ r.finished)) gno ≡ true → (1 ≤ gno) × (gno ≤ r.dispatched)
  dispatched_has gno has = let both = and_parts (nat_le 1 gno) (nat_le gno r.dispatched) (sym (h.counted.each gno) ∙ has) in (leb-true 1 gno both.0, leb-true gno r.dispatched both.1)

  -- and those that are out or finished are not committed
  under_way : (gno : ℕ) → has_gno (r.out ++ r.finished) gno ≡ true → IsUnderWay r gno
  under_way gno has =
      let within = dispatched_has gno (has_gno_behind r.commits (r.out ++ r.finished) gno has) in
      (within.0, within.1, distinct_apart_behind r.commits (r.out ++ r.finished) h.counted.distinct gno has)

  pub out_under_way : (gno : ℕ) → has_gno r.out gno ≡ true → IsUnderWay r gno
  out_under_way gno has = under_way gno (has_gno_front r.out r.finished gno has)

  pub finished_under_way : (gno : ℕ) → has_gno r.finished gno ≡ true → IsUnderWay r gno
  finished_under_way gno has = under_way gno (has_gno_behind r.out r.finished gno has)

  -- the results that wait are of these
  finished_has : (gno : ℕ) → has_gno (gnos_of line.done) gno ≡ true → has_gno r.finished gno ≡ true
  finished_has gno has = ap (λ (l : List ℕ). has_gno l gno) (sym h.turned.done) ∙ has

  -- what is kept of the jobs is of those that are out, where these jobs stay
  kept_stays : (now : Replica) → ((gno : ℕ) → has_gno r.out gno ≡ true → job_of now gno ≡ job_of r gno) →
      map Some handed ≡ map (λ gno. option_map kept_of (job_of now gno)) r.out
  kept_stays now stays =
      h.kept ∙ same_each (λ gno. option_map kept_of (job_of r gno)) (λ gno. option_map kept_of (job_of now gno)) r.out (λ gno has. ap (option_map kept_of) (sym (stays gno has)))

  -- what is dispatched, out, finished, published, stopped or may go changes nothing of the log that is kept, but for the operations
  log_with : {published dispatched : ℕ} {out finished : List ℕ} {stopped : Option ℕ} {keeps : Bool} {left : List Op} → published ≤ length r.commits →
      left ≡ waiting (record r { published = published }) →
      IsLogKept (record r { published = published; dispatched = dispatched; out = out; finished = finished; stopped = stopped; keeps = keeps }) rows keys left
  log_with few are = record {
    acceptable = h.log.acceptable;
    commits = h.log.commits;
    rows_are = h.log.rows_are;
    apart = h.log.apart;
    indexed = h.log.indexed;
    published = few;
    ops_are = are;
  }

  -- nor of what was eligible
  eligible_with : {published dispatched : ℕ} {out finished : List ℕ} {stopped : Option ℕ} {keeps : Bool} {gno : ℕ} {rec : Record} → IsEligible r gno rec →
      IsEligible (record r { published = published; dispatched = dispatched; out = out; finished = finished; stopped = stopped; keeps = keeps }) gno rec
  eligible_with is = record { parent = is.parent; near = is.near }

  -- ---- one more record accepted

  pub kept_accepted : (new : Record) → AreAcceptable r.tables (r.accepted ++ new ∷ []) → ArePartsOf (with_accepted r new) marks line handed rows keys ops
  kept_accepted new acceptable =
      let step : AcceptsOn r new = accept_step r new stands (acceptable r.accepted new [] refl).gno in
      let stays = λ (gno : ℕ) (under : IsUnderWay r gno). step.jobs gno under.0 (omega (arith, under.1, h.within)) in
      record {
        set_up = h.set_up;
        log = record {
          acceptable = acceptable;
          commits = step.commits;
          rows_are = step.rows ∙ h.log.rows_are;
          apart = h.log.apart;
          indexed = h.log.indexed;
          published = h.log.published;
          ops_are = h.log.ops_are ∙ sym step.ops;
        };
        turned = h.turned;
        within = omega (arith, h.within, length_push r.accepted new);
        counted = h.counted;
        eligible = step.eligible h.within;
        kept = kept_stays (with_accepted r new) (λ gno has. stays gno (out_under_way gno has));
        results =
            all_each (λ result. IsTaken (job_of r result.job.gno) result) (λ result. IsTaken (job_of (with_accepted r new) result.job.gno) result) line.done
            (λ result has is. of_same_job (sym (stays result.job.gno (finished_under_way result.job.gno (finished_has result.job.gno has)))) is) h.results;
      }

  -- ---- the next record dispatched

  pub kept_dispatched : (rec : Record) (job : Job) → IsNext r rec → job_of r (r.dispatched + 1) ≡ Some job →
      ArePartsOf (dispatched_next r) marks (entered line (r.dispatched + 1)) (handed ++ kept_of job ∷ []) rows keys ops
  kept_dispatched rec job next made =
      let gno = r.dispatched + 1 in
      let within : r.dispatched < length r.accepted = slice_get_within r.accepted r.dispatched rec next.got in
      let new : has_gno (r.commits ++ (r.out ++ r.finished)) gno ≡ false = h.counted.each gno ∙ past_all r.dispatched in
      record {
        set_up = h.set_up;
        log = log_with h.log.published h.log.ops_are;
        turned = record { preserve = h.turned.preserve; next = h.turned.next; out = ap (λ (l : List ℕ). l ++ gno ∷ []) h.turned.out; done = h.turned.done };
        within = omega arith;
        counted = record {
          counted = omega (arith, h.counted.counted, length_push r.out gno);
          busy = omega (arith, h.counted.counted, next.free, length_push r.out gno);
          distinct = distinct_entered r.commits r.out r.finished gno h.counted.distinct new;
          each = λ other. has_gno_entered r.commits r.out r.finished gno other ∙ ap (λ (b : Bool). b || eqb gno other) (h.counted.each other) ∙ up_to_next r.dispatched other;
          marked = h.counted.marked;
          low = h.counted.low;
          in_turn = h.counted.in_turn;
        };
        eligible = λ other rec' low high got. elim (cases_lt r.dispatched other) [
          | inl last ↦
              let place : r.dispatched ≡ other - 1 = omega arith in
              let same = same_Some rec rec' (sym next.got ∙ ap (slice_get r.accepted) place ∙ got) in
              record { parent = subst (λ (x : Record). x.parent ≤ low_water r) same next.parent; near = omega (arith, next.near) }
          | inr old ↦ eligible_with (h.eligible other rec' low old got)
        ];
        kept =
            map-append Some handed (kept_of job ∷ [])
            ∙ (λ i. h.kept i ++ option_map kept_of (sym made i) ∷ [])
            ∙ sym (map-append (λ number. option_map kept_of (job_of r number)) r.out (gno ∷ []));
        results = h.results;
      }

  -- ---- a result taken

  pub kept_finished : (result : Finished) (place : ℕ) → has_gno r.out result.job.gno ≡ true → place ≡ place_in r.out result.job.gno →
      IsTaken (job_of r result.job.gno) result → ArePartsOf (with_finished r result.job.gno) marks (with_result line result) (remove handed place) rows keys ops
  kept_finished result place out at taken =
      let gno = result.job.gno in
      let moved : length (without gno r.out) + length (r.finished ++ gno ∷ []) ≡ length r.out + length r.finished = omega (arith, length-without gno r.out out, length_push r.finished gno) in
      record {
        set_up = h.set_up;
        log = log_with h.log.published h.log.ops_are;
        turned = record {
          preserve = h.turned.preserve;
          next = h.turned.next;
          out = ap (without gno) h.turned.out;
          done = gnos-with_result line result ∙ ap (λ (l : List ℕ). l ++ gno ∷ []) h.turned.done;
        };
        within = h.within;
        counted = record {
          counted = omega (arith, h.counted.counted);
          busy = omega (arith, h.counted.busy);
          distinct = distinct_moved_behind r.commits r.out r.finished gno h.counted.distinct out;
          each = λ other. has_gno_moved_behind r.commits r.out r.finished gno other out ∙ h.counted.each other;
          marked = h.counted.marked;
          low = h.counted.low;
          in_turn = h.counted.in_turn;
        };
        eligible = λ other rec low high got. eligible_with (h.eligible other rec low high got);
        kept =
            sym (remove-map Some place handed) ∙ (λ i. remove (h.kept i) (at i))
            ∙ remove-map (λ number. option_map kept_of (job_of r number)) (place_in r.out gno) r.out;
        results = all_with_result (λ other. IsTaken (job_of r other.job.gno) other) line result h.results taken;
      }

  -- ---- a stop, more published, or fewer kept

  kept_beside : {published : ℕ} {stopped : Option ℕ} {keeps : Bool} {left : List Op} → IsLogKept (record r { published = published; stopped = stopped; keeps = keeps }) rows keys left →
      ArePartsOf (record r { published = published; stopped = stopped; keeps = keeps }) marks line handed rows keys left
  kept_beside log = record {
    set_up = h.set_up;
    log = log;
    turned = h.turned;
    within = h.within;
    counted = h.counted;
    eligible = λ gno rec low high got. eligible_with (h.eligible gno rec low high got);
    kept = h.kept;
    results = h.results;
  }

  pub kept_stopped : (gno : ℕ) → ArePartsOf (stopped_at r gno) marks line handed rows keys ops
  kept_stopped gno = kept_beside (log_with h.log.published h.log.ops_are)

  pub kept_letting_go : ArePartsOf (letting_go r) marks line handed rows keys ops
  kept_letting_go = kept_beside (log_with h.log.published h.log.ops_are)

  -- an operation waits for each commit that is not published
  pub length_ops : length ops ≡ length r.commits - r.published
  length_ops =
      let all = commits_from r.tables (loaded r.base) (ran r) in
      let within = commits_are_within r.tables (loaded r.base) r.accepted r.commits (numbered_of r.tables r.accepted h.log.acceptable) h.log.commits in
      ap length h.log.ops_are ∙ length-drop r.published all
      ∙ ap (λ n. n - r.published) (one_commit_each r.tables (loaded r.base) (ran r) rows (rows_of_ran r rows stands h.log.rows_are) ∙ length_records_at r.accepted r.commits within)

  pub kept_published : (upto : ℕ) → r.published ≤ upto → upto ≤ length r.commits →
      ArePartsOf (with_published r upto) marks line handed rows keys (drop (upto - r.published) ops)
  kept_published upto later done =
      let all = commits_from r.tables (loaded r.base) (ran r) in
      let sum : r.published + (upto - r.published) ≡ upto = omega arith in
      kept_beside (log_with done (ap (drop (upto - r.published)) h.log.ops_are ∙ drop-drop (upto - r.published) r.published all ∙ ap (λ n. drop n all) sum))

  -- what is published is a gapped state
  pub shows_gapped : (n : ℕ) → n ≤ length r.commits → ShowsGapped r n
  shows_gapped n few = published_is_gapped r n kept_sound few

  -- ---- the next commit

  module _ {result : Finished} {left : List Entry} (is : turn line ≡ Some result) (output : result.outcome ≡ Output left) where
    gno_waits : has_gno r.finished result.job.gno ≡ true
    gno_waits = finished_has result.job.gno (turn_waits line result is)

    taken : IsTaken (job_of r result.job.gno) result
    taken = turn_has (λ other. IsTaken (job_of r other.job.gno) other) line result is h.results

    step : StepsOn r result.job.gno rows left
    step = commit_step r result.job.gno result rows left stands (finished_under_way result.job.gno gno_waits) h.log.rows_are taken.job taken.came output

    distinct_behind : AreDistinct (r.out ++ r.finished)
    distinct_behind = AreDistinct_behind r.commits (r.out ++ r.finished) h.counted.distinct

    -- each other job stays
    out_stays : (other : ℕ) → has_gno r.out other ≡ true → job_of (with_commit r result.job.gno) other ≡ job_of r other
    out_stays other has = step.jobs other (out_under_way other has)
        (λ same. true≢false (sym has ∙ ap (has_gno r.out) same ∙ distinct_apart_behind r.out r.finished distinct_behind result.job.gno gno_waits))

    finished_stays : (other : ℕ) → has_gno (without result.job.gno r.finished) other ≡ true → job_of (with_commit r result.job.gno) other ≡ job_of r other
    finished_stays other has = step.jobs other (finished_under_way other (has_gno_of_without result.job.gno r.finished other has))
        (λ same. true≢false (sym has ∙ ap (has_gno (without result.job.gno r.finished)) same ∙ has_gno-without_same result.job.gno r.finished (AreDistinct_behind r.out r.finished distinct_behind)))

    -- in the order of the log it is the next
    pub next_in_turn : r.preserve ≡ true → result.job.gno ≡ length r.commits + 1
    next_in_turn preserve = turn_is_next line result (h.turned.preserve ∙ preserve) is ∙ h.turned.next preserve

    next_then : r.preserve ≡ true → (passed line).next ≡ length (r.commits ++ result.job.gno ∷ []) + 1
    next_then preserve =
        ap (λ (b : Bool). if b then line.next + 1 else line.next) (h.turned.preserve ∙ preserve)
        ∙ ap (λ (n : ℕ). n + 1) (h.turned.next preserve ∙ sym (length_push r.commits result.job.gno))

    commits_in_turn : r.preserve ≡ true → r.commits ++ result.job.gno ∷ [] ≡ first_gnos (length (r.commits ++ result.job.gno ∷ []))
    commits_in_turn preserve =
        (λ i. h.counted.in_turn preserve i ++ next_in_turn preserve i ∷ [])
        ∙ sym (first_gnos-next (length r.commits)) ∙ ap first_gnos (sym (length_push r.commits result.job.gno))

    done_then : gnos_of (passed line).done ≡ without result.job.gno r.finished
    done_then = gnos-passed line result is ∙ ap (without result.job.gno) h.turned.done

    counted_then : (marks_then : Marks) → ((g : ℕ) → is_committed marks_then g ≡ (is_committed marks g || eqb g result.job.gno)) → is_committed marks_then (marks_then.low + 1) ≡ false →
        IsCounted r.preserve r.dispatched r.workers (r.commits ++ result.job.gno ∷ []) r.out (without result.job.gno r.finished) marks_then
    counted_then marks_then exact greatest =
        let gno = result.job.gno in
        let fewer = length-without gno r.finished gno_waits in
        let marked = marks_of_more marks marks_then r.commits gno exact h.counted.marked in
        record {
          counted = omega (arith, h.counted.counted, fewer, length_push r.commits gno);
          busy = omega (arith, h.counted.busy, fewer);
          distinct = distinct_moved_front r.commits r.out r.finished gno h.counted.distinct gno_waits;
          each = λ other. has_gno_moved_front r.commits r.out r.finished gno other gno_waits ∙ h.counted.each other;
          marked = marked;
          low = low_of_marks marks_then (r.commits ++ gno ∷ []) greatest marked;
          in_turn = commits_in_turn;
        }

    pub kept_committed : (marks_then : Marks) → ((g : ℕ) → is_committed marks_then g ≡ (is_committed marks g || eqb g result.job.gno)) → is_committed marks_then (marks_then.low + 1) ≡ false →
        ArePartsOf (with_commit r result.job.gno) marks_then (passed line) handed (put_batch left rows) (moved r.tables (marks_at r.tables (keys_of left) rows) left keys)
        (ops ++ Commit result.job.gno left ∷ [])
    kept_committed marks_then exact greatest =
        let gno = result.job.gno in
        record {
          set_up = h.set_up;
          log = record {
            acceptable = h.log.acceptable;
            commits = step.commits;
            rows_are = step.rows_are;
            apart = h.log.apart;
            indexed = keys_follow r.tables rows left keys step.rising step.apart step.apart_then h.log.indexed;
            published = omega (arith, h.log.published, length_push r.commits gno);
            ops_are = ap (λ (l : List Op). l ++ Commit gno left ∷ []) h.log.ops_are ∙ sym (step.ops h.log.published);
          };
          turned = record { preserve = h.turned.preserve; next = next_then; out = h.turned.out; done = done_then };
          within = h.within;
          counted = counted_then marks_then exact greatest;
          eligible = step.eligible;
          kept = kept_stays (with_commit r gno) out_stays;
          results =
              all_each (λ other. IsTaken (job_of r other.job.gno) other) (λ other. IsTaken (job_of (with_commit r gno) other.job.gno) other) (passed line).done
              (λ other has was. of_same_job (sym (finished_stays other.job.gno (ap (λ (l : List ℕ). has_gno l other.job.gno) (sym done_then) ∙ has))) was)
              (all_passed (λ other. IsTaken (job_of r other.job.gno) other) line h.results);
        }
