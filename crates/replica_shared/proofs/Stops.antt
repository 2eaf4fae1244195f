-- Why a replica stopped stays true at each step.
use Rattle.std.proofs.Common.{◌≡◌, ◌∙◌, sym, ap, subst, refl, ℕ, ◌-◌, ◌⊎◌, inl, inr, Bool, true, false, ◌&&◌, nat_le, List, ◌++◌, Option, Some, None, Result, Ok, Err, IfSome, IsErrOf, arith}
use Rattle.std.proofs.Common.{slice_get}
use Rattle.std.specs.Option.{option_map_or}
use Rattle.std.proofs.lemmas.Bool.{cases_eq, and_parts, leb-true}
use Rattle.std.proofs.lemmas.Option.{same_Some, slice_get_within}
use Rattle.schema.proofs.Lists.{get_front, get_within}
use Rattle.rows.specs.Database.{Database}
use Rattle.store_trait.specs.Batch.{Entry}
use Rattle.store_trait.specs.Operation.{loaded}
use Rattle.record_codec.specs.declared.records.Record.{Record}
use Rattle.executor.specs.declared.Job.{Job}
use Rattle.executor.specs.declared.Outcome.{Outcome}
use Rattle.executor.specs.declared.Outcome.TheVariants as outcomes
use Rattle.executor.specs.Job.{Finished, IsResult, outcome_over}
use Rattle.relay.specs.declared.ReplicaFault.{ReplicaFault}
use Rattle.relay.specs.declared.ReplicaFault.TheVariants as faults
use Rattle.scheduler.specs.Gnos.{has_gno}
use Rattle.scheduler.proofs.Gnos.{has_gno_front, distinct_apart_behind}
use Rattle.record_codec.specs.Group.{AreNumbered}
use Rattle.record_codec.specs.Log.{after}
use Rattle.gapped.proofs.Choosing.{longer_log, AreWithin}
use Rattle.replica_core.specs.Replica.{Replica, working_rows, job_over}
use Rattle.replica_core.specs.Calls.{finish_fault, IsHandedOut, taken_as, left_by_fault, unless_stopped}
use Rattle.replica_core.specs.Sound.{IsSound, IsUnderWay}
use Rattle.replica_core.proofs.Handing.{Grows}
use Rattle.replica_core.proofs.Jobs.{job_at, job_agrees_now}
use Rattle.replica_core.proofs.Showing.{numbered_of}
use Rattle.replica_core.proofs.Steps.{cause, no_cause}
use Rattle.replica_shared.specs.Together.{HasNoOutput, MayStopAt, StopsRightly}

-- one that runs has not stopped anywhere
pub runs_rightly : (r : Replica) → r.stopped ≡ None → StopsRightly r
runs_rightly r running = subst (λ (stopped : Option ℕ). IfSome stopped (MayStopAt r)) (sym running) tt

-- it runs, where it answers so
pub runs_where_ok : {T : Type 0} (r : Replica) (answer told : T) → IsErrOf (Ok answer) faults.Memory ⊎ (Ok answer ≡ unless_stopped r told) → r.stopped ≡ None
runs_where_ok r answer told (inl lacks) = cc
runs_where_ok r answer told (inr is) = running r.stopped is
  where
    running : (stopped : Option ℕ) → Ok answer ≡ option_map_or (λ gno. Err (faults.Stopped gno)) stopped (Ok told) → stopped ≡ None
    running None is = refl
    running (Some at) is = cc

-- ---- more is accepted

may_grown : (r then : Replica) (at : ℕ) → Grows r then → IsSound then → AreWithin r.commits r.accepted → MayStopAt r at → MayStopAt then at
may_grown r then at grows sound within may =
    let none = may.1 in
    let got = get_front r.accepted grows.more (at - 1) (slice_get_within r.accepted (at - 1) none.rec none.got) ∙ none.got in
    let numbered : AreNumbered 1 (r.accepted ++ grows.more) = subst (λ (x : Replica). AreNumbered 1 x.accepted) grows.is (numbered_of then.tables then.accepted sound.accepted) in
    let rows = ap (after r.tables (loaded r.base)) (longer_log r.accepted grows.more r.commits numbered (λ gno has. (within gno has).1)) ∙ none.rows_are in
    subst (λ (x : Replica). MayStopAt x at) (sym grows.is) (may.0, record { rec = none.rec; got = got; rows = none.rows; rows_are = rows; none = none.none })

-- a replica that stopped rightly did so also where more is accepted
pub stops_grown : (r then : Replica) → Grows r then → IsSound then → AreWithin r.commits r.accepted → StopsRightly r → StopsRightly then
stops_grown r then grows sound within h =
    subst (λ (stopped : Option ℕ). IfSome stopped (MayStopAt then)) (sym (ap (λ (x : Replica). x.stopped) grows.is)) (each r.stopped h)
  where
    each : (stopped : Option ℕ) → IfSome stopped (MayStopAt r) → IfSome stopped (MayStopAt then)
    each None may = tt
    each (Some at) may = may_grown r then at grows sound within may

-- ---- a result

-- where nothing refuses it, the replica runs, and its record is under way
pub free_runs : (r : Replica) (gno : ℕ) → IsSound r → finish_fault r gno ≡ None → (r.stopped ≡ None) × IsUnderWay r gno
free_runs r gno sound free =
    let so = no_cause r.stopped (nat_le 1 gno && nat_le gno r.dispatched) (has_gno r.out gno) free in
    let within = and_parts (nat_le 1 gno) (nat_le gno r.dispatched) so.1 in
    let behind = distinct_apart_behind r.commits (r.out ++ r.finished) sound.distinct gno (has_gno_front r.out r.finished gno so.2) in
    (so.0, (leb-true 1 gno within.0, leb-true gno r.dispatched within.1, behind))

-- two answers of one fault
same_fault : (a b : ReplicaFault) (x y : Finished) → ◌≡◌ {A = Result (Unit {0}) (ReplicaFault × Finished)} (Err (a, x)) (Err (b, y)) → a ≡ b
same_fault a b x y is = let pair : (a, x) ≡ (b, y) = cc is in ap (λ (p : ReplicaFault × Finished). p.0) pair

-- a result that stops the replica has no output
taken_stops : (done back : Finished) (at : ℕ) (o : Outcome) → taken_as done o ≡ Err (faults.Stopped at, back) → ((o ≡ outcomes.Undefined) ⊎ (o ≡ outcomes.WrongRefs)) × (done.job.gno ≡ at)
taken_stops done back at (outcomes.Output batch) is = cc
taken_stops done back at outcomes.Undefined is = (inl refl, cc (same_fault (faults.Stopped done.job.gno) (faults.Stopped at) done back is))
taken_stops done back at outcomes.WrongRefs is = (inr refl, cc (same_fault (faults.Stopped done.job.gno) (faults.Stopped at) done back is))
taken_stops done back at outcomes.Memory is = absurd (cc (same_fault faults.Memory (faults.Stopped at) done back is))

-- and it is that of its job
came : (o e : Outcome) → (o ≡ outcomes.Undefined) ⊎ (o ≡ outcomes.WrongRefs) → (o ≡ outcomes.Memory) ⊎ (o ≡ e) → (e ≡ outcomes.Undefined) ⊎ (e ≡ outcomes.WrongRefs)
came o e (inl none) (inl lacks) = cc
came o e (inr wrong) (inl lacks) = cc
came o e (inl none) (inr same) = inl (sym same ∙ none)
came o e (inr wrong) (inr same) = inr (sym same ∙ wrong)

-- so over the working rows there is none either
pub none_there : (r : Replica) (done : Finished) (rec : Record) (rows : Database) → IsSound r → IsUnderWay r done.job.gno → IsResult done
    → slice_get r.accepted (done.job.gno - 1) ≡ Some rec → working_rows r ≡ Some rows → IsHandedOut r done →
    (done.outcome ≡ outcomes.Undefined) ⊎ (done.outcome ≡ outcomes.WrongRefs) → (outcome_over r.tables rec rows ≡ outcomes.Undefined) ⊎ (outcome_over r.tables rec rows ≡ outcomes.WrongRefs)
none_there r done rec rows sound under result got rows_are of none =
    let same = same_Some (job_over r.tables done.job.gno rec rows) done.job (sym (job_at r done.job.gno rec rows got rows_are) ∙ of) in
    let there : outcome_over r.tables rec rows ≡ outcome_over done.job.schema done.job.rec rows = ap (λ (j : Job). outcome_over j.schema j.rec rows) same in
    let agrees = job_agrees_now r done.job.gno done.job rows sound under of rows_are in
    came done.outcome (outcome_over r.tables rec rows) none (elim result [ inl lacks ↦ inl lacks | inr each ↦ inr (each rows agrees ∙ sym there) ])

no_output : (r : Replica) (done : Finished) → IsSound r → IsUnderWay r done.job.gno → IsResult done → ((IsHandedOut r done → ⊥) → ⊥)
    → (IsHandedOut r done → (done.outcome ≡ outcomes.Undefined) ⊎ (done.outcome ≡ outcomes.WrongRefs)) → HasNoOutput r done.job.gno
no_output r done sound under result handed told =
    let got = get_within r.accepted (done.job.gno - 1) (omega (arith, under.0, under.1, sound.dispatched)) in
    record {
      rec = got.0;
      got = got.1;
      rows = sound.rows;
      rows_are = sound.rows_are;
      none = by_outcome (outcome_over r.tables got.0 sound.rows) (λ of. none_there r done got.0 sound.rows sound under result got.1 sound.rows_are of (told of));
    }
  where
    not_output : (e : Outcome) (batch : List Entry) → (e ≡ outcomes.Undefined) ⊎ (e ≡ outcomes.WrongRefs) → e ≡ outcomes.Output batch → ⊥
    not_output e batch (inl none) is = cc
    not_output e batch (inr wrong) is = cc

    not_memory : (e : Outcome) → (e ≡ outcomes.Undefined) ⊎ (e ≡ outcomes.WrongRefs) → e ≡ outcomes.Memory → ⊥
    not_memory e (inl none) is = cc
    not_memory e (inr wrong) is = cc

    by_outcome : (e : Outcome) → (IsHandedOut r done → (e ≡ outcomes.Undefined) ⊎ (e ≡ outcomes.WrongRefs)) → (e ≡ outcomes.Undefined) ⊎ (e ≡ outcomes.WrongRefs)
    by_outcome (outcomes.Output batch) its = absurd (handed (λ of. not_output (outcomes.Output batch) batch (its of) refl))
    by_outcome outcomes.Undefined its = inl refl
    by_outcome outcomes.WrongRefs its = inr refl
    by_outcome outcomes.Memory its = absurd (handed (λ of. not_memory outcomes.Memory (its of) refl))

-- what the core's `finish` tells of a result
pub record Finishes (r : Replica) (done : Finished) (result : Result (Unit {0}) (ReplicaFault × Finished)) : Type 0 where
  pub of_job : IsResult done
  pub sound : IsSound r
  pub refused : IfSome (finish_fault r done.job.gno) (λ fault. result ≡ Err (fault, done))
  pub other : finish_fault r done.job.gno ≡ None → (IsHandedOut r done → ⊥) → result ≡ Err (faults.WrongInput, done)
  pub taken : finish_fault r done.job.gno ≡ None → IsHandedOut r done → result ≡ taken_as done done.outcome

-- a stop that was there before
stopped_from : (stopped : Option ℕ) (known out : Bool) (at : ℕ) → cause stopped known out ≡ Some (faults.Stopped at) → stopped ≡ Some at
stopped_from None true true at is = cc
stopped_from None true false at is = cc
stopped_from None false out at is = cc
stopped_from (Some gno) known out at is =
    let same : faults.Stopped gno ≡ faults.Stopped at = same_Some (faults.Stopped gno) (faults.Stopped at) is in
    let number : gno ≡ at = cc same in
    ap Some number

-- the fault of an answer is the one that is told
told_so : (told fault : ReplicaFault) (done back : Finished) (result : Result (Unit {0}) (ReplicaFault × Finished)) → result ≡ Err (told, back) → result ≡ Err (fault, done) → fault ≡ told
told_so told fault done back result is refused = sym (same_fault told fault back done (sym is ∙ refused))

may_stop : (r : Replica) (done back : Finished) (at : ℕ) (result : Result (Unit {0}) (ReplicaFault × Finished)) → result ≡ Err (faults.Stopped at, back)
    → Finishes r done result → StopsRightly r → MayStopAt r at
may_stop r done back at result is f h = each (finish_fault r gno) refl f.refused
  where
    gno : ℕ
    gno = done.job.gno

    stays : (stopped : Option ℕ) → stopped ≡ Some at → IfSome stopped (MayStopAt r) → MayStopAt r at
    stays stopped same may = subst (λ (o : Option ℕ). IfSome o (MayStopAt r)) same may

    wrong : faults.WrongInput ≡ faults.Stopped at → ⊥
    wrong same = cc

    fresh : finish_fault r gno ≡ None → MayStopAt r at
    fresh free =
        let handed : (IsHandedOut r done → ⊥) → ⊥ = λ not. wrong (told_so (faults.Stopped at) faults.WrongInput done back result is (f.other free not)) in
        let told : IsHandedOut r done → ((done.outcome ≡ outcomes.Undefined) ⊎ (done.outcome ≡ outcomes.WrongRefs)) × (gno ≡ at) =
        λ of. taken_stops done back at done.outcome (sym (f.taken free of) ∙ is) in
        let under = (free_runs r gno f.sound free).1 in
        let none : HasNoOutput r gno = no_output r done f.sound under f.of_job handed (λ of. (told of).0) in
        elim (cases_eq gno at) [
          | inl here ↦ subst (MayStopAt r) here (under, none)
          | inr elsewhere ↦ absurd (handed (λ of. elsewhere (told of).1))
        ]

    each : (fault : Option ReplicaFault) → finish_fault r gno ≡ fault → IfSome fault (λ x. result ≡ Err (x, done)) → MayStopAt r at
    each None free refused = fresh free
    each (Some fault) cause_is refused =
        let same : fault ≡ faults.Stopped at = told_so (faults.Stopped at) fault done back result is refused in
        stays r.stopped
        (stopped_from r.stopped (nat_le 1 gno && nat_le gno r.dispatched) (has_gno r.out gno) at (cause_is ∙ ap Some same))
        h

-- a replica that refuses a result stops rightly, if it stops
pub stops_refused : (r : Replica) (done back : Finished) (told : ReplicaFault) (result : Result (Unit {0}) (ReplicaFault × Finished)) → result ≡ Err (told, back)
    → Finishes r done result → StopsRightly r → StopsRightly (left_by_fault r told)
stops_refused r done back (faults.Stopped at) result is f h =
    let may = may_stop r done back at result is f h in
    let none = may.1 in
    (may.0, record { rec = none.rec; got = none.got; rows = none.rows; rows_are = none.rows_are; none = none.none })
stops_refused r done back _ result is f h = h
