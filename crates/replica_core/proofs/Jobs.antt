-- The jobs of the accepted records, over the working rows.
use Rattle.std.proofs.Common.{◌≡◌, ◌∙◌, sym, ap, subst, refl, ℕ, suc, ◌+◌, ◌-◌, ◌≤◌, List, [], ◌∷◌, ◌++◌, length, take, drop, Option, Some, None, is_some, arith, slice_get}
use Rattle.std.specs.Option.{option_and_then, option_map}
use Rattle.std.proofs.lemmas.Option.{none-some, same_Some, option_and_then_some}
use Rattle.std.proofs.lemmas.List.{drop-append-le}
use Rattle.schema.proofs.Lists.{get_front, get_within}
use Rattle.rows.specs.Database.{Database, effect, writes, NoValueTwice}
use Rattle.rows.proofs.Effect.{values_stay_apart}
use Rattle.store_trait.specs.Batch.{Entry, IsRising, rows_in, put_batch}
use Rattle.store_trait.specs.Operation.{loaded}
use Rattle.store_trait.specs.declared.Op.TheVariants.{Commit}
use Rattle.store_trait.proofs.Batches.{put_batch-writes, rows_in_rise}
use Rattle.record_codec.specs.declared.records.Record.{Record}
use Rattle.record_codec.specs.Group.{AreNumbered}
use Rattle.record_codec.specs.Log.{after}
use Rattle.record_codec.proofs.Numbered.{numbered-append}
use Rattle.executor.specs.declared.Job.{Job}
use Rattle.executor.specs.declared.Outcome.TheVariants.{Output}
use Rattle.executor.specs.Job.{Finished, IsResult, Agrees}
use Rattle.executor.specs.Laws.{IsGood, LeavesThere}
use Rattle.executor.proofs.Handed.{same_handed_over, handed_agrees}
use Rattle.executor.proofs.Elsewhere.{output_is_good, output_is_there}
use Rattle.relay.proofs.Stated.{acceptable_states_given}
use Rattle.scheduler.specs.Gnos.{has_gno}
use Rattle.scheduler.proofs.Gnos.{low_is_low, low_rises}
use Rattle.gapped.specs.Gapped.{AreCommits}
use Rattle.gapped.specs.Laws.{Waits}
use Rattle.gapped.proofs.Choosing.{number_at, longer_log, records_at_pushed, records_at_longer, length_records_at, commits_longer}
use Rattle.gapped.proofs.Waiters.{eligible_waits, waiting_looks_alike}
use Rattle.gapped.proofs.Committing.{commit_leaves}
use Rattle.replica_core.specs.Replica.{Replica, low_water, working_rows, ran, commits_from, job_over, job_of, waiting}
use Rattle.replica_core.specs.Sound.{IsUnderWay, AreEligible}
use Rattle.replica_core.specs.Calls.{with_accepted, with_commit}
use Rattle.replica_core.specs.Laws.{JobIsOfItsRecord, EachHasJob, JobAgreesNow, JobStays, JobStaysBehind, OthersLeaveJobs}
use Rattle.replica_core.proofs.Commits.{one_commit_more, one_commit_each}
use Rattle.replica_core.proofs.Showing.{Stands, sound_stands, numbered, rows_of_ran, rows_apart, commits_within}
use Rattle.replica_core.proofs.Apart.{split, place_acceptable}

-- ---- the job of a record

pub job_at : (r : Replica) (gno : ℕ) (rec : Record) (rows : Database) → slice_get r.accepted (gno - 1) ≡ Some rec → working_rows r ≡ Some rows → job_of r gno ≡ Some (job_over r.tables gno rec rows)
job_at r gno rec rows got is =
    λ i. option_and_then (λ (x : Record). option_map (job_over r.tables gno x) (is i)) (got i)

-- what a job is of
pub record JobParts (r : Replica) (gno : ℕ) (job : Job) : Type 0 where
  pub rec : Record
  pub rows : Database
  pub got : slice_get r.accepted (gno - 1) ≡ Some rec
  pub rows_are : working_rows r ≡ Some rows
  pub job_is : job ≡ job_over r.tables gno rec rows

option_map_some : {A B P : Type 0} (f : A → B) (o : Option A) (y : B) → option_map f o ≡ Some y → ((x : A) → o ≡ Some x → f x ≡ y → P) → P
option_map_some f None y is go = absurd (none-some y is)
option_map_some f (Some x) y is go = go x refl (same_Some (f x) y is)

pub job_parts : (r : Replica) (gno : ℕ) (job : Job) → job_of r gno ≡ Some job → JobParts r gno job
job_parts r gno job is =
    option_and_then_some (λ rec. option_map (job_over r.tables gno rec) (working_rows r)) (slice_get r.accepted (gno - 1)) job is
    (λ rec got made. option_map_some (job_over r.tables gno rec) (working_rows r) job made
    (λ rows rows_are same. record { rec = rec; rows = rows; got = got; rows_are = rows_are; job_is = sym same }))

pub job_is_of_its_record : JobIsOfItsRecord
job_is_of_its_record r gno job is =
    let parts = job_parts r gno job is in
    record {
      gno = ap (λ (j : Job). j.gno) parts.job_is;
      rec = parts.got ∙ ap (λ (j : Job). Some j.rec) (sym parts.job_is);
      schema = ap (λ (j : Job). j.schema) parts.job_is;
    }

pub each_has_job : EachHasJob
each_has_job r gno sound low high =
    let got = get_within r.accepted (gno - 1) (omega arith) in
    ap is_some (job_at r gno got.0 sound.rows got.1 sound.rows_are)

-- ---- records under way

-- the record at a number has it
number_there : (r : Replica) (gno : ℕ) (rec : Record) → Stands r → 1 ≤ gno → slice_get r.accepted (gno - 1) ≡ Some rec → rec.gno ≡ gno
number_there r gno rec h low got =
    let there : rec.gno ≡ gno - 1 + 1 = number_at r.accepted (gno - 1) rec (numbered r h) got in
    omega arith

-- each of them waits: it is not committed, and each earlier record that conflicts with it is
pub waits_of : (r : Replica) (gno : ℕ) (rec : Record) → Stands r → IsUnderWay r gno → slice_get r.accepted (gno - 1) ≡ Some rec → Waits r.accepted r.commits rec
waits_of r gno rec h under got =
    let parts = split r.accepted (gno - 1) rec got in
    let parent = (h.eligible gno rec under.0 under.1 got).parent in
    record {
      front = take (gno - 1) r.accepted;
      rest = drop (suc (gno - 1)) r.accepted;
      split = parts;
      new = ap (has_gno r.commits) (number_there r gno rec h under.0 got) ∙ under.2;
      chosen_ = eligible_waits r.tables r.accepted _ _ rec r.commits (low_water r) h.acceptable parts parent (low_is_low r.commits);
    }

-- its job may be of the working rows
pub job_agrees_of : (r : Replica) (gno : ℕ) (job : Job) (rows : Database) → Stands r → job_of r gno ≡ Some job → working_rows r ≡ Some rows → Agrees job rows
job_agrees_of r gno job rows h is rows_are =
    let parts = job_parts r gno job is in
    let gives = acceptable_states_given r.tables (take (gno - 1) r.accepted) parts.rec (place_acceptable r.tables r.accepted (gno - 1) parts.rec h.acceptable parts.got) in
    let its = handed_agrees (job_over r.tables gno parts.rec parts.rows) parts.rows gives (rows_apart r parts.rows h parts.rows_are) refl refl in
    subst (λ (x : Job × Database). Agrees x.0 x.1) (λ i. (sym parts.job_is i, same_Some parts.rows rows (sym parts.rows_are ∙ rows_are) i)) its

pub job_agrees_now : JobAgreesNow
job_agrees_now r gno job rows sound under is rows_are = job_agrees_of r gno job rows (sound_stands r sound) is rows_are

-- ---- one more commit

-- a record under way that is good over the working rows is one more commit, and these are then what it leaves
leaves_of : (r : Replica) (gno : ℕ) (rec : Record) (rows : Database) → Stands r → IsUnderWay r gno → slice_get r.accepted (gno - 1) ≡ Some rec → working_rows r ≡ Some rows →
    (good : IsGood r.tables rec rows) → AreCommits r.tables (loaded r.base) r.accepted (r.commits ++ gno ∷ []) × (working_rows (with_commit r gno) ≡ Some good.leaves)
leaves_of r gno rec rows h under got rows_are good =
    let output = (output_is_good r.tables rec rows).1 good in
    let one = commit_leaves r.tables (loaded r.base) r.accepted r.commits rec rows output.0 h.apart (numbered r h) h.commits (waits_of r gno rec h under got) rows_are output.1 in
    let number = number_there r gno rec h under.0 got in (
      subst (λ n. AreCommits r.tables (loaded r.base) r.accepted (r.commits ++ n ∷ [])) number one.are,
      ap (λ n. working_rows (with_commit r n)) (sym number) ∙ one.rows_are ∙ sym one.good.applies ∙ good.applies,
    )

-- what it leaves looks alike to each other record under way, so the job of that one stays
pub job_stays_of : (r : Replica) (gno other : ℕ) (rec : Record) (rows : Database) → Stands r → IsUnderWay r gno → IsUnderWay r other → (gno ≡ other → ⊥) →
    slice_get r.accepted (other - 1) ≡ Some rec → working_rows r ≡ Some rows → IsGood r.tables rec rows → job_of (with_commit r other) gno ≡ job_of r gno
job_stays_of r gno other rec rows h under under_other apart got rows_are good = by (slice_get r.accepted (gno - 1)) refl
  where
    by : (o : Option Record) → slice_get r.accepted (gno - 1) ≡ o → job_of (with_commit r other) gno ≡ job_of r gno
    by None is = rw is
    by (Some mine) is =
        let apart_too = λ (e : rec.gno ≡ mine.gno). apart (sym (number_there r gno mine h under.0 is) ∙ sym e ∙ number_there r other rec h under_other.0 got) in
        let alike = waiting_looks_alike r.tables r.accepted r.commits rec mine rows (rows_apart r rows h rows_are) (numbered r h)
        (waits_of r other rec h under_other got) (waits_of r gno mine h under is) apart_too good in
        let same = same_handed_over r.tables mine rows good.leaves alike in
        job_at (with_commit r other) gno mine good.leaves is (leaves_of r other rec rows h under_other got rows_are good).1
        ∙ (λ i. Some (record { gno = gno; rec = mine; input = sym same.input i; holders = sym same.holders i; schema = r.tables }))
        ∙ sym (job_at r gno mine rows is rows_are)

pub job_stays : JobStays
job_stays r gno other rec rows sound = job_stays_of r gno other rec rows (sound_stands r sound)

-- The commit of a record under way, whose result is an output: it is one more, its batch puts the rows that the commits leave then,
-- and it is the last of the operations; each other job under way stays, and each record dispatched stays eligible.
pub record StepsOn (r : Replica) (gno : ℕ) (rows : Database) (left : List Entry) : Type 0 where
  pub commits : AreCommits r.tables (loaded r.base) r.accepted (r.commits ++ gno ∷ [])
  pub rows_are : working_rows (with_commit r gno) ≡ Some (put_batch left rows)
  pub rising : IsRising left
  pub apart : NoValueTwice r.tables rows
  pub apart_then : NoValueTwice r.tables (put_batch left rows)
  pub ops : r.published ≤ length r.commits → waiting (with_commit r gno) ≡ waiting r ++ Commit gno left ∷ []
  pub jobs : (other : ℕ) → IsUnderWay r other → (other ≡ gno → ⊥) → job_of (with_commit r gno) other ≡ job_of r other
  pub eligible : AreEligible (with_commit r gno)

-- more commits have no lower mark
eligible_then : (r : Replica) (gno : ℕ) → AreEligible r → AreEligible (with_commit r gno)
eligible_then r gno eligible number rec low high got =
    let before = eligible number rec low high got in
    let rises : low_water r ≤ low_water (with_commit r gno) = low_rises r.commits (gno ∷ []) in
    record { parent = omega (arith, before.parent); near = omega (arith, before.near) }

-- the operations that wait then
waits_then : (r : Replica) (gno : ℕ) (rec : Record) (rows leaves : Database) → Stands r → 1 ≤ gno →
    slice_get r.accepted (gno - 1) ≡ Some rec → working_rows r ≡ Some rows → effect r.tables rec.changes rows ≡ Some leaves →
    r.published ≤ length r.commits → waiting (with_commit r gno) ≡ waiting r ++ Commit gno (rows_in (writes rec.changes) leaves) ∷ []
waits_then r gno rec rows leaves h low got rows_are applies earlier =
    let so_far = commits_from r.tables (loaded r.base) (ran r) in
    let its = rows_in (writes rec.changes) leaves in
    let are : after r.tables (loaded r.base) (ran r) ≡ Some rows = rows_of_ran r rows h rows_are in
    let all : length so_far ≡ length r.commits =
    one_commit_each r.tables (loaded r.base) (ran r) rows are ∙ length_records_at r.accepted r.commits (commits_within r h) in
    let more : commits_from r.tables (loaded r.base) (ran (with_commit r gno)) ≡ so_far ++ Commit gno its ∷ [] =
    ap (commits_from r.tables (loaded r.base)) (records_at_pushed r.accepted r.commits gno rec got)
    ∙ one_commit_more r.tables (loaded r.base) (ran r) rec rows leaves are applies
    ∙ ap (λ n. so_far ++ Commit n its ∷ []) (number_there r gno rec h low got) in
    ap (drop r.published) more ∙ drop-append-le r.published so_far (Commit gno its ∷ []) (omega arith)

pub commit_step : (r : Replica) (gno : ℕ) (result : Finished) (rows : Database) (left : List Entry) → Stands r → IsUnderWay r gno → working_rows r ≡ Some rows →
    job_of r gno ≡ Some result.job → IsResult result → result.outcome ≡ Output left → StepsOn r gno rows left
commit_step r gno result rows left h under rows_are handed came output =
    let parts = job_parts r gno result.job handed in
    let there = subst (λ (job : Job). LeavesThere job.schema job.rec rows left) parts.job_is
    (output_is_there result rows left came (job_agrees_of r gno result.job rows h handed rows_are) output) in
    let rec = parts.rec in
    let leaves = there.after_ in
    let good : IsGood r.tables rec rows = record { leaves = leaves; applies = there.applies; refs = there.refs; marks = there.marks } in
    let put : put_batch left rows ≡ leaves = ap (λ b. put_batch b rows) there.rows ∙ put_batch-writes r.tables rec.changes rows leaves there.applies in
    let apart = rows_apart r rows h rows_are in
    let then = leaves_of r gno rec rows h under parts.got rows_are good in
    record {
      commits = then.0;
      rows_are = then.1 ∙ ap Some (sym put);
      rising = subst IsRising (sym there.rows) (rows_in_rise (writes rec.changes) leaves);
      apart = apart;
      apart_then = subst (NoValueTwice r.tables) (sym put) (values_stay_apart r.tables rec.changes rows leaves apart there.applies);
      ops = λ earlier. waits_then r gno rec rows leaves h under.0 parts.got rows_are there.applies earlier ∙ ap (λ b. waiting r ++ Commit gno b ∷ []) (sym there.rows);
      jobs = λ other its apart_from. job_stays_of r other gno rec rows h its under apart_from parts.got rows_are good;
      eligible = eligible_then r gno h.eligible;
    }

-- ---- one more record accepted

-- what was committed, the rows, the operations and the jobs stay
pub record AcceptsOn (r : Replica) (new : Record) : Type 0 where
  pub commits : AreCommits r.tables (loaded r.base) (r.accepted ++ new ∷ []) r.commits
  pub rows : working_rows (with_accepted r new) ≡ working_rows r
  pub ops : waiting (with_accepted r new) ≡ waiting r
  pub jobs : (gno : ℕ) → 1 ≤ gno → gno ≤ length r.accepted → job_of (with_accepted r new) gno ≡ job_of r gno
  pub eligible : r.dispatched ≤ length r.accepted → AreEligible (with_accepted r new)

pub accept_step : (r : Replica) (new : Record) → Stands r → new.gno ≡ length r.accepted + 1 → AcceptsOn r new
accept_step r new h next =
    let all : AreNumbered 1 (r.accepted ++ new ∷ []) = numbered-append 1 r.accepted (new ∷ []) (numbered r h) (omega arith, tt) in
    let within = commits_within r h in
    let same : working_rows (with_accepted r new) ≡ working_rows r =
    ap (after r.tables (loaded r.base)) (longer_log r.accepted (new ∷ []) r.commits all (λ gno is. (within gno is).1)) in
    let front : (gno : ℕ) → 1 ≤ gno → gno ≤ length r.accepted → slice_get (r.accepted ++ new ∷ []) (gno - 1) ≡ slice_get r.accepted (gno - 1) =
    λ gno low high. get_front r.accepted (new ∷ []) (gno - 1) (omega arith) in
    record {
      commits = commits_longer r.tables (loaded r.base) r.accepted (new ∷ []) r.commits all h.commits;
      rows = same;
      ops = ap (λ l. drop r.published (commits_from r.tables (loaded r.base) l)) (records_at_longer r.accepted (new ∷ []) r.commits within);
      jobs = λ gno low high i. option_and_then (λ (x : Record). option_map (job_over r.tables gno x) (same i)) (front gno low high i);
      eligible = λ within_all gno rec low high got.
          let before = h.eligible gno rec low high (sym (front gno low (omega arith)) ∙ got) in record { parent = before.parent; near = before.near };
    }

pub job_stays_behind : JobStaysBehind
job_stays_behind r gno new sound next low high = (accept_step r new (sound_stands r sound) next).jobs gno low high

-- ---- nothing else changes a job

pub others_leave_jobs : OthersLeaveJobs
others_leave_jobs r gno = record { dispatched = refl; finished = λ other. refl; published = λ upto. refl; stopped = λ at. refl }
