-- Commits in the order of the log: those from 1 to their number.
use Rattle.std.proofs.Common.{◌≡◌, ◌∙◌, sym, ap, subst, ℕ, zero, suc, ◌+◌, ◌-◌, ◌<◌, ◌≤◌, List, [], ◌∷◌, ◌++◌, length, take, drop, Some, arith, slice_get}
use Rattle.std.proofs.lemmas.List.{take-append-drop}
use Rattle.schema.proofs.Lists.{get_within}
use Rattle.rows.specs.Database.{Database}
use Rattle.rows.specs.Frame.{AgreeOn}
use Rattle.rows.specs.Holders.{holders_in}
use Rattle.store_trait.specs.Batch.{rows_in}
use Rattle.store_trait.specs.Operation.{loaded}
use Rattle.record_codec.specs.declared.records.Record.{Record}
use Rattle.record_codec.specs.Log.{after, StateMarks, IsLegalLog}
use Rattle.record_codec.proofs.Logs.{beginning_is_legal, legal_states_marks}
use Rattle.executor.specs.declared.Job.{Job}
use Rattle.executor.specs.Job.{rows_of, Agrees}
use Rattle.executor.specs.Laws.{LooksAlike}
use Rattle.executor.proofs.Handed.{same_rows_in, same_handed_over, handed_agrees}
use Rattle.relay.proofs.Stated.{acceptable_states_given}
use Rattle.scheduler.specs.Gnos.{has_gno, low_of, first_gnos}
use Rattle.scheduler.proofs.Gnos.{has_gno_last, low_of_first, first_gnos-next}
use Rattle.gapped.specs.Gapped.{chosen, records_at}
use Rattle.gapped.proofs.Choosing.{first_are_chosen, records_of_first}
use Rattle.replica_core.specs.Replica.{Replica, low_water, rows_at, working_rows, ran, job_over, job_of, operations}
use Rattle.replica_core.specs.Sound.{IsUnderWay, HoldAlong, HoldersAlong, IsInOrder}
use Rattle.replica_core.specs.Calls.{with_commit}
use Rattle.replica_core.specs.Laws.{JobAgrees, LegalStatesUpTo, JobStaysInOrder}
use Rattle.replica_core.proofs.Commits.{ops_in_order}
use Rattle.replica_core.proofs.Showing.{Stands, numbered, commits_within, commits_state_marks, sound_stands}
use Rattle.replica_core.proofs.Apart.{place_acceptable, rows_stay, apart_at, part_behind, holders_stay}
use Rattle.replica_core.proofs.Jobs.{job_at, JobParts, job_parts}

-- the mark is then the number of the commits
pub low_in_order : (r : Replica) → r.commits ≡ first_gnos (length r.commits) → low_water r ≡ length r.commits
low_in_order r is = ap low_of is ∙ low_of_first (length r.commits)

-- and each of the records up to it was accepted
pub accepted_in_order : (r : Replica) → Stands r → r.commits ≡ first_gnos (length r.commits) → length r.commits ≤ length r.accepted
accepted_in_order r h is = by (length r.commits) is
  where
    by : (n : ℕ) → r.commits ≡ first_gnos n → n ≤ length r.accepted
    by zero these = omega arith
    by (suc n) these = (commits_within r h (suc n) (ap (λ gnos. has_gno gnos (suc n)) these ∙ has_gno_last (first_gnos n) (suc n))).1

-- the records of the first so many, in log order, are the first so many
rows_of_first : (r : Replica) (gnos : List ℕ) (n : ℕ) → Stands r → gnos ≡ first_gnos n → after r.tables (loaded r.base) (chosen gnos r.accepted) ≡ rows_at r n
rows_of_first r gnos n h are =
    ap (λ these. after r.tables (loaded r.base) (chosen these r.accepted)) are
    ∙ ap (after r.tables (loaded r.base)) (first_are_chosen r.accepted n (numbered r h))

pub rows_in_order : (r : Replica) → Stands r → r.commits ≡ first_gnos (length r.commits) → working_rows r ≡ rows_at r (length r.commits)
rows_in_order r h is = rows_of_first r r.commits (length r.commits) h is

pub ran_in_order : (r : Replica) → Stands r → r.commits ≡ first_gnos (length r.commits) → ran r ≡ take (length r.commits) r.accepted
ran_in_order r h is = ap (records_at r.accepted) is ∙ records_of_first r.accepted (length r.commits) (accepted_in_order r h is)

-- ---- the rows of a job are those of each database up to its record's place

module _ (r : Replica) (h : Stands r) (ordered : r.commits ≡ first_gnos (length r.commits)) where
  parent_is_committed : (gno : ℕ) (rec : Record) → IsUnderWay r gno → slice_get r.accepted (gno - 1) ≡ Some rec → rec.parent ≤ length r.commits
  parent_is_committed gno rec under got =
      omega (arith, (h.eligible gno rec under.0 under.1 got).parent, low_in_order r ordered)

  -- these rows are then those after the first so many accepted records
  now : (rows : Database) → working_rows r ≡ Some rows → rows_at r (length r.commits) ≡ Some rows
  now rows rows_are = sym (rows_in_order r h ordered) ∙ rows_are

  agree_along : (gno n : ℕ) (job : Job) (db : Database) → IsUnderWay r gno → length r.commits ≤ n → n < gno → (parts : JobParts r gno job) →
      rows_at r n ≡ Some db → AgreeOn (rows_of parts.rec) parts.rows db
  agree_along gno n job db under low high parts rows_are =
      let behind = n - length r.commits in
      let place : length r.commits + behind ≡ n = omega arith in
      rows_stay r (length r.commits) (gno - 1) behind parts.rec parts.rows db h.acceptable parts.got
      (parent_is_committed gno parts.rec under parts.got) (omega arith) (now parts.rows parts.rows_are) (ap (rows_at r) place ∙ rows_are)

  hold_along : HoldAlong r
  hold_along gno n job db under low high is rows_are =
      let parts = job_parts r gno job is in
      let agree = agree_along gno n job db under low high parts rows_are in
      ap (λ (j : Job). j.input) parts.job_is ∙ same_rows_in (rows_of parts.rec) parts.rows db agree
      ∙ ap (λ (j : Job). rows_in (rows_of j.rec) db) (sym parts.job_is)

  -- and who has its marks, where the records that lead there state their true marks
  holders_along : HoldersAlong r
  holders_along gno n job db under low high is rows_are stated =
      let parts = job_parts r gno job is in
      let first = now parts.rows parts.rows_are in
      let alike : LooksAlike r.tables parts.rec parts.rows db = record {
        rows = agree_along gno n job db under low high parts rows_are;
        holders = holders_stay (length r.commits) (gno - 1) n h parts.got (parent_is_committed gno parts.rec under parts.got) low (omega arith) first rows_are (stated parts.rows first);
      } in
      ap (λ (j : Job). j.holders) parts.job_is ∙ (same_handed_over r.tables parts.rec parts.rows db alike).holders
      ∙ ap (λ (j : Job). holders_in r.tables j.rec.marks db) (sym parts.job_is)

  -- a replica whose commits are in the order of the log
  pub in_order_of : IsInOrder r
  in_order_of = record {
    commits = ordered;
    rows = rows_in_order r h ordered;
    ran_ = ran_in_order r h ordered;
    ops = λ n within.
        ap (λ records. operations r.tables r.base records n) (ran_in_order r h ordered)
        ∙ ops_in_order r.tables r.base r.accepted (length r.commits) n (numbered r h) within;
    stated = subst (StateMarks r.tables (loaded r.base)) (ran_in_order r h ordered) (commits_state_marks r h);
    jobs = hold_along;
    holders = holders_along;
  }

-- ---- a job may be of each of these databases

pub job_agrees : JobAgrees
job_agrees r gno n job db sound preserve under low high is rows_are stated =
    let in_order = sound.in_order preserve in
    let parts = job_parts r gno job is in
    let made = job_over r.tables gno parts.rec parts.rows in
    let its : job_of r gno ≡ Some made = is ∙ ap Some parts.job_is in
    let gives = acceptable_states_given r.tables (take (gno - 1) r.accepted) parts.rec (place_acceptable r.tables r.accepted (gno - 1) parts.rec sound.accepted parts.got) in
    subst (λ (j : Job). Agrees j db) (sym parts.job_is)
    (handed_agrees made db gives (apart_at r n db sound.apart rows_are)
    (in_order.jobs gno n made db under low high its rows_are)
    (in_order.holders gno n made db under low high its rows_are stated))

-- the records of a legal log state their true marks, from each place of it on
pub legal_states_up_to : LegalStatesUpTo
legal_states_up_to r n legal behind rows is =
    let k = length r.commits in
    let beginning = beginning_is_legal r.tables (loaded r.base) (take n r.accepted) (drop n r.accepted)
    (subst (IsLegalLog r.tables (loaded r.base)) (sym (take-append-drop n r.accepted)) legal) in
    legal_states_marks r.tables (loaded r.base) rows (take k r.accepted) (drop k (take n r.accepted))
    (subst (IsLegalLog r.tables (loaded r.base)) (sym (part_behind r.accepted k n behind)) beginning) is

pub job_stays_in_order : JobStaysInOrder
job_stays_in_order r gno leaves sound preserve under later applies stated =
    let in_order = sound.in_order preserve in
    let next = length r.commits + 1 in
    let got = get_within r.accepted (gno - 1) (let all = sound.dispatched in omega (arith, under.0, under.1)) in
    let its = job_at r gno got.0 sound.rows got.1 sound.rows_are in
    let job = job_over r.tables gno got.0 sound.rows in
    let rows = in_order.jobs gno next job leaves under (omega arith) later its applies in
    let holders = in_order.holders gno next job leaves under (omega arith) later its applies stated in
    let these : r.commits ++ next ∷ [] ≡ first_gnos next =
    ap (λ gnos. gnos ++ next ∷ []) in_order.commits ∙ sym (first_gnos-next (length r.commits)) in
    let behind : working_rows (with_commit r next) ≡ Some leaves =
    rows_of_first r (r.commits ++ next ∷ []) next (sound_stands r sound) these ∙ applies in
    job_at (with_commit r next) gno got.0 leaves got.1 behind
    ∙ (λ i. Some (record { gno = gno; rec = got.0; input = sym rows i; holders = sym holders i; schema = r.tables }))
    ∙ sym its
