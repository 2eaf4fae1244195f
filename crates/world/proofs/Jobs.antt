-- The jobs that wait, and the first of a number among them.
use Rattle.std.proofs.Common.{◌≡◌, ◌∙◌, sym, ap, refl, ℕ, zero, suc, ◌+◌, ◌<◌, ◌==◌, Bool, true, false, ◌||◌, cond, get_or, List, [], ◌∷◌, ◌++◌, length, take, drop, Option, Some, None}
use Rattle.std.proofs.Common.{IfNone, arith, subst, ◌-◌}
use Rattle.std.specs.List.{position, position_from, remove, AllByRecursion}
use Rattle.std.proofs.Math.Seq.{split_at}
use Rattle.std.proofs.lemmas.Bool.{eqb-true, and_parts, leb-true, or_right, false≢true}
use Rattle.std.proofs.lemmas.Option.{none-some}
use Rattle.std.proofs.lemmas.Iterator.Adapters.{position_from-zero}
use Rattle.executor.specs.declared.Job.{Job}
use Rattle.scheduler.specs.Gnos.{has_gno, without}
use Rattle.world.specs.Waiting.{TakesOut, numbers_of}
use Rattle.std.specs.Prelude.{slice_get}
use Rattle.std.proofs.lemmas.List.{map-append, length-take-le}
use Rattle.std.proofs.lemmas.List.Quantifiers.{position-Some}
use Rattle.schema.proofs.Lists.{AllByRecursion-push}
use Rattle.rows.specs.Database.{Database}
use Rattle.record_codec.specs.declared.records.Record.{Record}
use Rattle.executor.specs.Laws.{IsGood}
use Rattle.scheduler.proofs.Gnos.{has_gno_first, has_gno_front, has_gno_behind, has_gno_between, distinct_apart, distinct_apart_behind, AreDistinct_behind, without_between}
use Rattle.replica_core.specs.Replica.{Replica, working_rows, job_of}
use Rattle.replica_core.specs.Calls.{with_accepted, dispatched_next, with_finished, with_commit, with_published}
use Rattle.replica_core.specs.Sound.{IsSound, IsUnderWay}
use Rattle.replica_core.proofs.Jobs.{job_is_of_its_record, job_stays, job_stays_behind}
use Rattle.world.specs.State.{HasJobs}

abbrev has_number : ℕ → Job → Bool
has_number gno job = job.gno == gno

none_from : (gno : ℕ) (jobs : List Job) (from : ℕ) → position_from (has_number gno) from jobs ≡ None → has_gno (numbers_of jobs) gno ≡ false
none_from gno [] from e = refl
none_from gno (j ∷ jobs) from e = by (j.gno == gno) refl e (none_from gno jobs (from + 1)) where
  by : (b : Bool) → (j.gno == gno) ≡ b → cond b (Some from) (position_from (has_number gno) (from + 1) jobs) ≡ None →
      (position_from (has_number gno) (from + 1) jobs ≡ None → has_gno (numbers_of jobs) gno ≡ false) →
      ((j.gno == gno) || has_gno (numbers_of jobs) gno) ≡ false
  by true t k behind = absurd (none-some from (sym k))
  by false t k behind = (λ i. t i || behind k i)

-- none before a place has the number
none_before : (gno : ℕ) (jobs : List Job) (n : ℕ) → ((k : ℕ) (d : Job) → k < n → has_number gno (get_or jobs k d) ≡ false) → has_gno (numbers_of (take n jobs)) gno ≡ false
none_before gno jobs zero none = refl
none_before gno [] (suc n) none = refl
none_before gno (j ∷ jobs) (suc n) none = λ i. none 0 j (omega arith) i || none_before gno jobs n (λ k d lt. none (suc k) d (omega (arith, lt))) i

-- what is removed at the place of the first is taken out
pub takes_out : (gno : ℕ) (old : List Job) (place : ℕ) (job : Job) (new : List Job) → Some place ≡ position (has_number gno) old → job ≡ get_or old place job → new ≡ remove old place →
    TakesOut gno old place job new
takes_out gno old place job new found got left =
    let at = position-Some (has_number gno) old place job (sym found) in
    record {
      front = take place old;
      rest = drop (suc place) old;
      were = split_at old place job at.0 ∙ ap (λ (j : Job). take place old ++ j ∷ drop (suc place) old) (sym got);
      are = left;
      at = sym (length-take-le place old (omega (arith, at.0)));
      number = ap (λ (j : Job). j.gno) got ∙ eqb-true _ gno at.1;
      first = none_before gno old place (λ k d lt. (position-Some (has_number gno) old place d (sym found)).2 k lt);
    }

pub none_found : (gno : ℕ) (jobs : List Job) → None ≡ position (has_number gno) jobs → has_gno (numbers_of jobs) gno ≡ false
none_found gno jobs e = none_from gno jobs 0 (sym (position_from-zero (has_number gno) jobs) ∙ sym e)

pub if_none : {A P : Type 0} (o : Option A) → P → IfNone o P
if_none None p = p
if_none (Some x) p = tt

-- ---- records under way

-- those that were dispatched and are not committed, by their places behind the commits
waiting_under : (r : Replica) (gno : ℕ) → IsSound r → has_gno (r.out ++ r.finished) gno ≡ true → IsUnderWay r gno
waiting_under r gno sound is =
    let bounds = and_parts _ _ (sym (sound.each gno) ∙ has_gno_behind r.commits (r.out ++ r.finished) gno is) in
    (leb-true 1 gno bounds.0, leb-true gno r.dispatched bounds.1, distinct_apart_behind r.commits (r.out ++ r.finished) sound.distinct gno is)

pub out_under : (r : Replica) (gno : ℕ) → IsSound r → has_gno r.out gno ≡ true → IsUnderWay r gno
out_under r gno sound is = waiting_under r gno sound (has_gno_front r.out r.finished gno is)

pub finished_under : (r : Replica) (gno : ℕ) → IsSound r → has_gno r.finished gno ≡ true → IsUnderWay r gno
finished_under r gno sound is = waiting_under r gno sound (has_gno_behind r.out r.finished gno is)

-- one that is out is not finished
pub out_apart : (r : Replica) (gno other : ℕ) → IsSound r → has_gno r.out gno ≡ true → has_gno r.finished other ≡ true → gno ≡ other → ⊥
out_apart r gno other sound out_ done same =
    let apart = AreDistinct_behind r.commits (r.out ++ r.finished) sound.distinct in
    false≢true (sym (distinct_apart r.out r.finished apart gno out_) ∙ ap (has_gno r.finished) same ∙ done)

-- ---- jobs that wait

-- where each number has the same job, they are the same
jobs_alike : (f g : ℕ → Option Job) (jobs : List Job) → ((gno : ℕ) → has_gno (numbers_of jobs) gno ≡ true → g gno ≡ f gno) → AllByRecursion (λ (job : Job). f job.gno ≡ Some job) jobs →
    AllByRecursion (λ (job : Job). g job.gno ≡ Some job) jobs
jobs_alike f g [] same all = tt
jobs_alike f g (job ∷ jobs) same all =
    (same job.gno (has_gno_first job.gno (numbers_of jobs)) ∙ all.0, jobs_alike f g jobs (λ gno is. same gno (or_right (job.gno == gno) (has_gno (numbers_of jobs) gno) is)) all.1)

-- other jobs of the same numbers
have_alike : (r next : Replica) (jobs : List Job) → HasJobs r jobs → next.out ≡ r.out → ((gno : ℕ) → has_gno r.out gno ≡ true → job_of next gno ≡ job_of r gno) → HasJobs next jobs
have_alike r next jobs h out_ same = record {
  out = h.out ∙ sym out_;
  each = jobs_alike (job_of r) (job_of next) jobs (λ gno is. same gno (ap (λ (l : List ℕ). has_gno l gno) (sym h.out) ∙ is)) h.each;
}

-- those on both sides of one
all_without : (P : Job → Type 0) (front rest : List Job) (job : Job) → AllByRecursion P (front ++ job ∷ rest) → P job × AllByRecursion P (front ++ rest)
all_without P [] rest job all = (all.0, all.1)
all_without P (j ∷ front) rest job all = let behind = all_without P front rest job all.1 in (behind.0, (all.0, behind.1))

numbers_between : (front rest : List Job) (job : Job) → numbers_of (front ++ job ∷ rest) ≡ numbers_of front ++ job.gno ∷ numbers_of rest
numbers_between front rest job = map-append (λ (j : Job). j.gno) front (job ∷ rest)

-- a job that was taken out is the one that the replica handed out, of a record that is out
pub record IsTaken (r : Replica) (gno : ℕ) (job : Job) : Type 0 where
  pub job_is : job_of r gno ≡ Some job
  pub number : job.gno ≡ gno
  pub out : has_gno r.out gno ≡ true

pub is_taken : (r : Replica) (gno place : ℕ) (old new : List Job) (job : Job) → HasJobs r old → TakesOut gno old place job new → IsTaken r gno job
is_taken r gno place old new job h t =
    let all = subst (λ (l : List Job). AllByRecursion (λ (j : Job). job_of r j.gno ≡ Some j) l) t.were h.each in
    let are : r.out ≡ numbers_of t.front ++ job.gno ∷ numbers_of t.rest = sym h.out ∙ ap numbers_of t.were ∙ numbers_between t.front t.rest job in
    record {
      job_is = ap (job_of r) (sym t.number) ∙ (all_without (λ (j : Job). job_of r j.gno ≡ Some j) t.front t.rest job all).0;
      number = t.number;
      out = ap (λ (l : List ℕ). has_gno l gno) (are ∙ ap (λ (n : ℕ). numbers_of t.front ++ n ∷ numbers_of t.rest) t.number) ∙ has_gno_between (numbers_of t.front) gno (numbers_of t.rest);
    }

-- where none has the number, no such record is out
pub none_out : (r : Replica) (gno : ℕ) (jobs : List Job) → HasJobs r jobs → has_gno (numbers_of jobs) gno ≡ false → has_gno r.out gno ≡ false
none_out r gno jobs h none = ap (λ (l : List ℕ). has_gno l gno) (sym h.out) ∙ none

-- ---- what each call of the replica leaves of the jobs

-- what is accepted stands behind those under way
pub jobs_accepted : (r : Replica) (jobs : List Job) (new : Record) → IsSound r → new.gno ≡ length r.accepted + 1 → HasJobs r jobs → HasJobs (with_accepted r new) jobs
jobs_accepted r jobs new sound number h = have_alike r (with_accepted r new) jobs h refl (λ gno is.
    let under = out_under r gno sound is in
    job_stays_behind r gno new sound number under.0 (omega (arith, under.1, sound.dispatched)))

-- the job that is handed out is the last
pub jobs_dispatched : (r : Replica) (jobs : List Job) (job : Job) → HasJobs r jobs → job_of r (r.dispatched + 1) ≡ Some job → HasJobs (dispatched_next r) (jobs ++ job ∷ [])
jobs_dispatched r jobs job h is =
    let number = (job_is_of_its_record r (r.dispatched + 1) job is).gno in
    record {
      out = map-append (λ (j : Job). j.gno) jobs (job ∷ []) ∙ (λ i. h.out i ++ number i ∷ []);
      each = AllByRecursion-push (λ (j : Job). job_of r j.gno ≡ Some j) jobs job h.each (ap (job_of r) number ∙ is);
    }

-- the one that was taken out is no longer out
pub jobs_finished : (r : Replica) (gno place : ℕ) (old new : List Job) (job : Job) → HasJobs r old → TakesOut gno old place job new → HasJobs (with_finished r gno) new
jobs_finished r gno place old new job h t =
    let all = subst (λ (l : List Job). AllByRecursion (λ (j : Job). job_of r j.gno ≡ Some j) l) t.were h.each in
    let are : r.out ≡ numbers_of t.front ++ gno ∷ numbers_of t.rest =
    sym h.out ∙ ap numbers_of t.were ∙ numbers_between t.front t.rest job ∙ ap (λ (n : ℕ). numbers_of t.front ++ n ∷ numbers_of t.rest) t.number in
    subst (λ (l : List Job). HasJobs (with_finished r gno) l) (sym t.are) (record {
      out = map-append (λ (j : Job). j.gno) t.front t.rest ∙ sym (without_between gno (numbers_of t.front) (numbers_of t.rest) t.first) ∙ ap (without gno) (sym are);
      each = (all_without (λ (j : Job). job_of r j.gno ≡ Some j) t.front t.rest job all).1;
    })

-- the jobs of the others stay, whatever record is committed that is good over the working rows
pub jobs_committed : (r : Replica) (jobs : List Job) (gno : ℕ) (rec : Record) (rows : Database) → IsSound r → has_gno r.finished gno ≡ true → slice_get r.accepted (gno - 1) ≡ Some rec →
    working_rows r ≡ Some rows → IsGood r.tables rec rows →
    HasJobs r jobs → HasJobs (with_commit r gno) jobs
jobs_committed r jobs gno rec rows sound done got are good h = have_alike r (with_commit r gno) jobs h refl (λ other is.
    job_stays r other gno rec rows sound (out_under r other sound is) (finished_under r gno sound done) (out_apart r other gno sound is done) got are good)

pub jobs_published : (r : Replica) (jobs : List Job) (upto : ℕ) → HasJobs r jobs → HasJobs (with_published r upto) jobs
jobs_published r jobs upto h = record { out = h.out; each = h.each }
