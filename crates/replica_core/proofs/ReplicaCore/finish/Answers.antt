use Rattle.std.proofs.Common.{◌∙◌, ◌<◌, sym, ap, subst, ℕ, Ok}
use Rattle.commit_order.specs.Turns.{Line}
use Rattle.replica_core.specs.Replica.{Replica}
use Rattle.replica_core.specs.Calls.{with_finished}
use Rattle.replica_core.specs.Core.{IsJudged, commits_seen}
use Rattle.replica_core.proofs.Kept.{holds, kept_stopped}
use Rattle.replica_core.proofs.Steps.{judged_within, finished_kept, parts_kept, as_parts}
use Rattle.replica_core.proofs.ReplicaCore.finish.Goals as goal

pub remove-requires : goal.remove-requires
remove-requires g c =
    let judged = subst (λ (r : Replica). IsJudged r c.args.done (Ok c.in-Ok.place)) (sym c.self.view_is) c.in-Ok.ensures in
    subst (λ (n : ℕ). c.in-Ok.place < n) (sym c.self.inside.handed.ok.0)
    (judged_within c.self.invariant.parts c.args.done c.in-Ok.place judged)

pub invariant_of-self : goal.invariant_of-self
invariant_of-self g c =
    let was = c.self.inside in
    let judged = subst (λ (r : Replica). IsJudged r c.args.done (Ok c.in-Ok.place)) (sym c.self.view_is) c.in-Ok.ensures in
    holds (parts_kept was.order.items
    (finished_kept c.self.invariant.parts c.args.done c.in-Output.field-0 c.in-Ok.place c.finish.new.self c.remove.new.self.items judged
    c.outcome.ensures.valid (sym c.outcome.ensures.value ∙ c.in-Output.is) c.finish.ensures c.remove.ensures.items)
    (ap (λ (line : Line). commits_seen line.preserve was.scheduler.low was.order.items) c.finish.ensures)) c.self.invariant.kept

pub invariant_of-self-in-Undefined : goal.invariant_of-self-in-Undefined
invariant_of-self-in-Undefined g c = holds (kept_stopped c.self.invariant.parts c.gno.result) c.self.invariant.kept

pub returns-in-Output-clause-ok : goal.returns-in-Output-clause-ok
returns-in-Output-clause-ok g c =
    let was = c.self.inside in
    let judged = subst (λ (r : Replica). IsJudged r c.args.done (Ok c.in-Ok.place)) (sym c.self.view_is) c.in-Ok.ensures in
    as_parts was.order.items
    (finished_kept c.self.invariant.parts c.args.done c.in-Output.field-0 c.in-Ok.place c.finish.new.self c.remove.new.self.items judged
    c.outcome.ensures.valid (sym c.outcome.ensures.value ∙ c.in-Output.is) c.finish.ensures c.remove.ensures.items)
    (ap (λ (line : Line). commits_seen line.preserve was.scheduler.low was.order.items) c.finish.ensures)
    ∙ ap (λ (r : Replica). with_finished r c.args.done.job.gno) c.self.view_is
