-- The jobs that are kept, at each step.
use Rattle.std.proofs.Common.{◌≡◌, ◌∙◌, sym, ap, subst, refl, ℕ, ◌+◌, ◌≤◌, ◌⊎◌, inl, inr, Bool, true, false, true≢false, not, ◌&&◌, ◌==◌, ◌||◌, nat_le, cond, Result, Err, IfSome, List}
use Rattle.std.proofs.Common.{[], ◌∷◌, ◌++◌, length, length-append, Option, Some, None, arith}
use Rattle.std.specs.List.{AllByRecursion}
use Rattle.std.proofs.lemmas.Bool.{cases_eq, not-true, false_from_ne_true, and_parts, and_from, or_cases, or_left, or_right, eqb-true, ne_eqb}
use Rattle.std.proofs.lemmas.List.{map-append, length-map}
use Rattle.executor.specs.declared.Job.{Job}
use Rattle.executor.specs.Job.{Finished}
use Rattle.relay.specs.declared.ReplicaFault.{ReplicaFault}
use Rattle.relay.specs.declared.ReplicaFault.TheVariants as faults
use Rattle.scheduler.specs.Gnos.{has_gno, AreDistinct}
use Rattle.scheduler.proofs.Gnos.{has_gno_front, has_gno_last, AreDistinct-push, are_fewer}
use Rattle.replica_core.specs.Replica.{Replica}
use Rattle.replica_core.specs.Calls.{finish_fault}
use Rattle.replica_core.specs.Sound.{IsSound}
use Rattle.replica_core.proofs.Steps.{cause, no_cause}
use Rattle.replica_shared.specs.Together.{AreKept, numbers_of, is_out_beside, out_beside, laid, NoneLost, TakesOut}

-- ---- those that are out still, but for one number

module _ (r : Replica) (gno : ℕ) where
  abbrev is_out : ℕ → Type 0
  is_out n = has_gno r.out n ≡ true

  -- whatever the test of the first says
  out_with : (b : Bool) (job : Job) (kept : List Job) → is_out_beside r gno job ≡ b → AllByRecursion is_out (numbers_of (out_beside r gno kept))
      → AllByRecursion is_out (numbers_of (cond b (job ∷ out_beside r gno kept) (out_beside r gno kept)))
  out_with true job kept is rest = ((and_parts (has_gno r.out job.gno) (not (job.gno == gno)) is).0, rest)
  out_with false job kept is rest = rest

  pub all_out : (kept : List Job) → AllByRecursion is_out (numbers_of (out_beside r gno kept))
  all_out [] = tt
  all_out (job ∷ kept) = out_with (is_out_beside r gno job) job kept refl (all_out kept)

  lacks_with : (b : Bool) (job : Job) (kept : List Job) → is_out_beside r gno job ≡ b → has_gno (numbers_of (out_beside r gno kept)) gno ≡ false
      → has_gno (numbers_of (cond b (job ∷ out_beside r gno kept) (out_beside r gno kept))) gno ≡ false
  lacks_with true job kept is rest = (λ i. not-true (job.gno == gno) (and_parts (has_gno r.out job.gno) (not (job.gno == gno)) is).1 i || rest i)
  lacks_with false job kept is rest = rest

  -- none has that number
  pub lacks_number : (kept : List Job) → has_gno (numbers_of (out_beside r gno kept)) gno ≡ false
  lacks_number [] = refl
  lacks_number (job ∷ kept) = lacks_with (is_out_beside r gno job) job kept refl (lacks_number kept)

  had_with : (b : Bool) (job : Job) (kept : List Job) (n : ℕ) → (has_gno (numbers_of (out_beside r gno kept)) n ≡ true → has_gno (numbers_of kept) n ≡ true)
      → has_gno (numbers_of (cond b (job ∷ out_beside r gno kept) (out_beside r gno kept))) n ≡ true → has_gno (numbers_of (job ∷ kept)) n ≡ true
  had_with true job kept n rest has = elim (or_cases (job.gno == n) (has_gno (numbers_of (out_beside r gno kept)) n) has) [
    | inl here ↦ or_left (job.gno == n) (has_gno (numbers_of kept) n) here
    | inr behind ↦ or_right (job.gno == n) (has_gno (numbers_of kept) n) (rest behind)
  ]
  had_with false job kept n rest has = or_right (job.gno == n) (has_gno (numbers_of kept) n) (rest has)

  -- and all were there
  pub were_kept : (kept : List Job) (n : ℕ) → has_gno (numbers_of (out_beside r gno kept)) n ≡ true → has_gno (numbers_of kept) n ≡ true
  were_kept [] n has = has
  were_kept (job ∷ kept) n has = had_with (is_out_beside r gno job) job kept n (were_kept kept n) has

  distinct_with : (b : Bool) (job : Job) (kept : List Job) → AreDistinct (numbers_of (job ∷ kept)) → AreDistinct (numbers_of (out_beside r gno kept))
      → AreDistinct (numbers_of (cond b (job ∷ out_beside r gno kept) (out_beside r gno kept)))
  distinct_with true job kept h rest =
      (false_from_ne_true (has_gno (numbers_of (out_beside r gno kept)) job.gno) (λ is. true≢false (sym (were_kept kept job.gno is) ∙ h.0)), rest)
  distinct_with false job kept h rest = rest

  pub distinct_still : (kept : List Job) → AreDistinct (numbers_of kept) → AreDistinct (numbers_of (out_beside r gno kept))
  distinct_still [] h = tt
  distinct_still (job ∷ kept) h = distinct_with (is_out_beside r gno job) job kept h (distinct_still kept h.1)

  -- one that is out, and of another number, stays
  stays_with : (b : Bool) (job : Job) (kept : List Job) (n : ℕ) → is_out_beside r gno job ≡ b → has_gno r.out n ≡ true → (n ≡ gno → ⊥)
      → (has_gno (numbers_of kept) n ≡ true → has_gno (numbers_of (out_beside r gno kept)) n ≡ true) → has_gno (numbers_of (job ∷ kept)) n ≡ true
      → has_gno (numbers_of (cond b (job ∷ out_beside r gno kept) (out_beside r gno kept))) n ≡ true
  stays_with true job kept n is out other rest has = elim (or_cases (job.gno == n) (has_gno (numbers_of kept) n) has) [
    | inl here ↦ or_left (job.gno == n) (has_gno (numbers_of (out_beside r gno kept)) n) here
    | inr behind ↦ or_right (job.gno == n) (has_gno (numbers_of (out_beside r gno kept)) n) (rest behind)
  ]
  stays_with false job kept n is out other rest has = elim (or_cases (job.gno == n) (has_gno (numbers_of kept) n) has) [
    | inl here ↦ (let same = eqb-true job.gno n here in
        let free : not (job.gno == gno) ≡ true = ap not (subst (λ m. (m == gno) ≡ false) (sym same) (ne_eqb n gno other)) in
        absurd (true≢false (sym (and_from (has_gno r.out job.gno) (not (job.gno == gno)) (subst (λ m. has_gno r.out m ≡ true) (sym same) out) free) ∙ is)))
    | inr behind ↦ rest behind
  ]

  pub stays_kept : (kept : List Job) (n : ℕ) → has_gno r.out n ≡ true → (n ≡ gno → ⊥) → has_gno (numbers_of kept) n ≡ true → has_gno (numbers_of (out_beside r gno kept)) n ≡ true
  stays_kept [] n out other has = has
  stays_kept (job ∷ kept) n out other has = stays_with (is_out_beside r gno job) job kept n refl out other (stays_kept kept n out other) has

-- ---- a job is kept

pub numbers_laid : (r : Replica) (job : Job) (kept : List Job) → numbers_of (laid r job kept) ≡ numbers_of (out_beside r job.gno kept) ++ job.gno ∷ []
numbers_laid r job kept = map-append (λ (j : Job). j.gno) (out_beside r job.gno kept) (job ∷ [])

all_pushed : (P : ℕ → Type 0) (xs : List ℕ) (x : ℕ) → AllByRecursion P xs → P x → AllByRecursion P (xs ++ x ∷ [])
all_pushed P [] x all one = (one, tt)
all_pushed P (y ∷ xs) x all one = (all.0, all_pushed P xs x all.1 one)

distinct_laid : (r : Replica) (job : Job) (kept : List Job) → AreDistinct (numbers_of kept) → AreDistinct (numbers_of (out_beside r job.gno kept) ++ job.gno ∷ [])
distinct_laid r job kept h = AreDistinct-push (numbers_of (out_beside r job.gno kept)) job.gno (distinct_still r job.gno kept h) (lacks_number r job.gno kept)

-- the records that are out are no more than the places, and each kept job is of another one of these
pub few_laid : (r : Replica) (job : Job) (kept : List Job) → IsSound r → has_gno r.out job.gno ≡ true → AreKept kept → length (out_beside r job.gno kept) + 1 ≤ 64
few_laid r job kept sound out h =
    let others = numbers_of (out_beside r job.gno kept) in
    let few = are_fewer (others ++ job.gno ∷ []) r.out (distinct_laid r job kept h.distinct) (all_pushed (λ n. has_gno r.out n ≡ true) others job.gno (all_out r job.gno kept) out) in
    let busy = sound.busy in
    let places = sound.few in
    omega (arith, few, length-append others (job.gno ∷ []), length-map (out_beside r job.gno kept) (λ (j : Job). j.gno))

-- a job that is out is kept in order with the others
pub kept_laid : (r : Replica) (job : Job) (kept : List Job) → IsSound r → has_gno r.out job.gno ≡ true → AreKept kept → AreKept (laid r job kept)
kept_laid r job kept sound out h = record {
  distinct = subst AreDistinct (sym (numbers_laid r job kept)) (distinct_laid r job kept h.distinct);
  few = (let few = few_laid r job kept sound out h in omega (arith, length-append (out_beside r job.gno kept) (job ∷ [])));
}

-- no kept job that is out is lost by that
pub none_lost : (r : Replica) (job : Job) (kept : List Job) → NoneLost r kept (laid r job kept)
none_lost r job kept gno out has = subst (λ l. has_gno l gno ≡ true) (sym (numbers_laid r job kept)) (elim (cases_eq gno job.gno) [
  | inl here ↦ subst (λ n. has_gno (others ++ n ∷ []) gno ≡ true) here (has_gno_last others gno)
  | inr elsewhere ↦ has_gno_front others (job.gno ∷ []) gno (stays_kept r job.gno kept gno out elsewhere has)
])
  where
    others : List ℕ
    others = numbers_of (out_beside r job.gno kept)

-- one is taken out
pub kept_left : (kept left : List Job) (taken : Option Job) → TakesOut kept taken left → AreKept kept → AreKept left
kept_left kept left None is h = subst AreKept (sym is.1) (record { distinct = tt; few = omega arith })
kept_left kept left (Some job) is h =
    let whole = subst AreKept is h in
    let few = whole.few in
    record { distinct = whole.distinct.1; few = omega arith }

-- ---- a result that was refused for want of memory

no_fault : (fault : Option ReplicaFault) (told : ReplicaFault) (done back : Finished) (result : Result (Unit {0}) (ReplicaFault × Finished)) → result ≡ Err (told, back) → told ≡ faults.Memory
    → IfSome fault (λ f. result ≡ Err (f, done)) → (fault ≡ None) ⊎ (fault ≡ Some faults.Memory)
no_fault None told done back result is lacks refused = inl refl
no_fault (Some fault) told done back result is lacks refused =
    let same : Err (told, back) ≡ Err (fault, done) = sym is ∙ refused in
    let pair : (told, back) ≡ (fault, done) = cc in
    inr (ap Some (sym (ap (λ (p : ReplicaFault × Finished). p.0) pair) ∙ lacks))

never_memory : (stopped : Option ℕ) (known out : Bool) → cause stopped known out ≡ Some faults.Memory → ⊥
never_memory None true true is = cc
never_memory _ _ _ is = cc

-- it is of a record of which no result was taken
pub still_out : (r : Replica) (told : ReplicaFault) (done back : Finished) (result : Result (Unit {0}) (ReplicaFault × Finished)) → result ≡ Err (told, back) → told ≡ faults.Memory
    → IfSome (finish_fault r done.job.gno) (λ f. result ≡ Err (f, done)) → has_gno r.out done.job.gno ≡ true
still_out r told done back result is lacks refused =
    let gno = done.job.gno in
    let known = nat_le 1 gno && nat_le gno r.dispatched in
    let free : finish_fault r gno ≡ None = elim (no_fault (finish_fault r gno) told done back result is lacks refused) [
      | inl none ↦ none
      | inr lacked ↦ absurd (never_memory r.stopped known (has_gno r.out gno) lacked)
    ] in
    (no_cause r.stopped known (has_gno r.out gno) free).2
