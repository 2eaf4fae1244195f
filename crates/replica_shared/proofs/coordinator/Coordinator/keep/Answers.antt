use Rattle.std.proofs.Common.{◌≡◌, ◌∙◌, sym, ap, subst, List, [], ◌∷◌, ◌++◌, length, true, arith}
use Rattle.executor.specs.declared.Job.{Job}
use Rattle.scheduler.specs.Gnos.{has_gno}
use Rattle.replica_core.specs.Sound.{IsSound}
use Rattle.replica_shared.specs.Together.{State, NoneLost, laid}
use Rattle.replica_shared.proofs.Keeping.{few_laid, kept_laid, none_lost}
use Rattle.replica_shared.proofs.Whole.{whole_beside}
use Rattle.replica_shared.proofs.coordinator.Coordinator.keep.Goals as goal

pub lay-requires : goal.lay-requires
lay-requires g c =
    let was = c.self.inside in
    let sound = subst (λ (s : State). IsSound s.core) (sym c.self.view_is) c.requires.sound in
    let out = subst (λ (s : State). has_gno s.core.out c.args.job.gno ≡ true) (sym c.self.view_is) c.requires.out in
    let few = few_laid was.core c.args.job was.kept sound out c.self.invariant.kept in
    omega (arith, few, ap (λ (jobs : List Job). length jobs) c.keep_out_beside.ensures)

pub invariant_of-self : goal.invariant_of-self
invariant_of-self g c =
    let was = c.self.inside in
    let sound = subst (λ (s : State). IsSound s.core) (sym c.self.view_is) c.requires.sound in
    let out = subst (λ (s : State). has_gno s.core.out c.args.job.gno ≡ true) (sym c.self.view_is) c.requires.out in
    let kept : c.lay.new.self ≡ laid was.core c.args.job was.kept = c.lay.ensures ∙ ap (λ (jobs : List Job). jobs ++ c.args.job ∷ []) c.keep_out_beside.ensures in
    rw kept (whole_beside c.self.invariant (kept_laid _ _ _ sound out c.self.invariant.kept) c.self.invariant.claims)

pub returns-clause-none_lost : goal.returns-clause-none_lost
returns-clause-none_lost g c =
    let was = c.self.inside in
    let kept : c.lay.new.self ≡ laid was.core c.args.job was.kept = c.lay.ensures ∙ ap (λ (jobs : List Job). jobs ++ c.args.job ∷ []) c.keep_out_beside.ensures in
    rw kept (subst (λ (s : State). NoneLost s.core s.kept (laid was.core c.args.job was.kept)) c.self.view_is (none_lost was.core c.args.job was.kept))
