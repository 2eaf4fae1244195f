use Rattle.std.proofs.Common.{◌∙◌, sym, ap, eqb, Some}
use Rattle.std.specs.List.{position_or_len}
use Rattle.executor.specs.declared.Job.{Job}
use Rattle.scheduler.specs.Gnos.{has_gno}
use Rattle.replica_core.specs.Replica.{Replica, job_of}
use Rattle.replica_core.specs.Calls.{finish_fault}
use Rattle.replica_core.specs.Core.{place_in}
use Rattle.replica_core.specs.declared.dispatching.HandedOut.{HandedOut}
use Rattle.replica_core.proofs.Steps.{judged_err, out_from, place_seen}
use Rattle.replica_core.proofs.ReplicaCore.judge.Goals as goal

pub is_handed_out-requires-clause-at : goal.is_handed_out-requires-clause-at
is_handed_out-requires-clause-at g c =
    c.place_kept-place.ensures
    ∙ (λ i. position_or_len (λ (k : HandedOut). eqb k.gno (c.gno-2.ensures i)) (c.deref.ensures.value i))
    ∙ place_seen c.self.invariant.parts c.args.done.now.job.gno
    ∙ ap (λ (r : Replica). place_in r.out c.args.done.now.job.gno) c.self.view_is
    ∙ ap (λ (j : Job). place_in c.args.self.now.out j.gno) (sym c.job.ensures)

pub is_handed_out-requires-clause-out : goal.is_handed_out-requires-clause-out
is_handed_out-requires-clause-out g c =
    ap (λ (j : Job). has_gno c.args.self.now.out j.gno) c.job.ensures
    ∙ out_from c.args.self.now c.args.done.now.job.gno (ap (finish_fault c.args.self.now) (sym c.gno.ensures) ∙ c.in_ok-refuse.ensures.ok)

pub returns-then-is_handed_out : goal.returns-then-is_handed_out
returns-then-is_handed_out g c = (
  ap (finish_fault c.args.self.now) (sym c.gno.ensures) ∙ c.in_ok-refuse.ensures.ok,
  ap (λ (j : Job). job_of c.args.self.now j.gno) (sym c.job.ensures) ∙ c.is_handed_out.ensures.0 c.if-is_handed_out.true ∙ ap (λ (j : Job). Some j) c.job.ensures,
  c.place_kept-place.ensures
      ∙ (λ i. position_or_len (λ (k : HandedOut). eqb k.gno (c.gno-2.ensures i)) (c.deref.ensures.value i))
      ∙ place_seen c.self.invariant.parts c.args.done.now.job.gno
      ∙ ap (λ (r : Replica). place_in r.out c.args.done.now.job.gno) c.self.view_is,
)

pub returns-in_err-refuse : goal.returns-in_err-refuse
returns-in_err-refuse g c =
    judged_err c.args.self.now c.args.done.now c.in_err-refuse.field-0.0 c.from_residual.result c.from_residual.ensures.1
    (ap (finish_fault c.args.self.now) (sym c.gno.ensures) ∙ c.in_err-refuse.ensures.err)
