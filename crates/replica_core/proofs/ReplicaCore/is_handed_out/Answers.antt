use Rattle.std.proofs.Common.{◌≡◌, ◌∙◌, sym, ap, subst, refl, ◌<◌, ◌↔◌, Some, ℕ, arith}
use Rattle.std.specs.Prelude.{IsTrue}
use Rattle.std.proofs.lemmas.Option.{slice_get_read}
use Rattle.scheduler.specs.Gnos.{has_gno}
use Rattle.replica_core.specs.Replica.{Replica, job_of}
use Rattle.replica_core.specs.Core.{place_in}
use Rattle.replica_core.proofs.Kept.{out_under_way}
use Rattle.replica_core.proofs.Lists.{found_past, within_past}
use Rattle.replica_core.proofs.Steps.{handed_is, record_kept, record_within, place_within}
use Rattle.replica_core.proofs.ReplicaCore.is_handed_out.Goals as goal

pub overflow_sub-job : goal.overflow_sub-job
overflow_sub-job g c =
    (out_under_way c.self.invariant.parts c.args.job.now.gno (ap (λ (r : Replica). has_gno r.out c.args.job.now.gno) c.self.view_is ∙ c.requires.out)).0

pub past-requires-clause-kept : goal.past-requires-clause-kept
past-requires-clause-kept g c =
    record_kept c.self.invariant.parts c.args.job.now.gno c.self.invariant.kept (ap (λ (r : Replica). has_gno r.out c.args.job.now.gno) c.self.view_is ∙ c.requires.out)

pub past-requires-clause-within : goal.past-requires-clause-within
past-requires-clause-within g c =
    let within = record_within c.self.invariant.parts c.args.job.now.gno (ap (λ (r : Replica). has_gno r.out c.args.job.now.gno) c.self.view_is ∙ c.requires.out) in
    omega arith

pub bounds-past-0 : goal.bounds-past-0
bounds-past-0 g c =
    within_past c.self.inside.relay.accepted _ c.past.result.now
    (record_within c.self.invariant.parts c.args.job.now.gno (ap (λ (r : Replica). has_gno r.out c.args.job.now.gno) c.self.view_is ∙ c.requires.out)) c.past.ensures.value

pub index-kept-requires : goal.index-kept-requires
index-kept-requires g c =
    subst (λ (n : ℕ). c.args.place < n) (sym c.self.inside.handed.ok.0)
    (place_within c.self.invariant.parts c.args.job.now.gno c.args.place (ap (λ (r : Replica). has_gno r.out c.args.job.now.gno) c.self.view_is ∙ c.requires.out)
    (c.requires.at ∙ ap (λ (r : Replica). place_in r.out c.args.job.now.gno) (sym c.self.view_is)))

pub returns : goal.returns
returns g c =
    let gno = c.args.job.now.gno in
    let out = ap (λ (r : Replica). has_gno r.out gno) c.self.view_is ∙ c.requires.out in
    let at = c.requires.at ∙ ap (λ (r : Replica). place_in r.out gno) (sym c.self.view_is) in
    let within = within_past c.self.inside.relay.accepted _ c.past.result.now (record_within c.self.invariant.parts gno out) c.past.ensures.value in
    let first = slice_get_read c.past.result.now _ 0 c.index-past-0.result refl within c.index-past-0.is in
    let kept = slice_get_read c.self.inside.handed.items _ c.args.place c.index-kept.result.now refl (place_within c.self.invariant.parts gno c.args.place out at) c.index-kept.ensures in
    subst (λ (r : Replica). IsTrue c.is_of.result ↔ (job_of r gno ≡ Some c.args.job.now)) c.self.view_is
    (handed_is c.self.invariant.parts c.args.job.now c.args.place c.index-past-0.result c.index-kept.result.now c.schema.result.now (IsTrue c.is_of.result) out at
    (found_past c.self.inside.relay.accepted _ _ c.past.result.now (Some c.index-past-0.result) refl c.past.ensures.value (sym first)) kept c.schema.ensures c.is_of.ensures)
