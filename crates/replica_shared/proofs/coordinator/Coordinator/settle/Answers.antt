use Rattle.std.proofs.Common.{subst, sym}
use Rattle.replica_shared.specs.Together.{State, Settles}
use Rattle.replica_shared.proofs.Later.{settles_then, dispatching_settles}
use Rattle.replica_shared.proofs.coordinator.Coordinator.settle.Goals as goal

pub returns-in_err-publish_all-clause-settles : goal.returns-in_err-publish_all-clause-settles
returns-in_err-publish_all-clause-settles g c =
    settles_then _ _ _ (subst (λ (s : State). Settles s c.commit_all.new.self) c.self.view_is c.commit_all.ensures.settles.0) c.publish_all.ensures.settles.0

pub returns-in_err-dispatch_all-clause-settles : goal.returns-in_err-dispatch_all-clause-settles
returns-in_err-dispatch_all-clause-settles g c =
    settles_then _ _ _
    (settles_then _ _ _ (subst (λ (s : State). Settles s c.commit_all.new.self) c.self.view_is c.commit_all.ensures.settles.0) c.publish_all.ensures.settles.0)
    (dispatching_settles _ _ c.dispatch_all.ensures.same)

pub returns-clause-settles : goal.returns-clause-settles
returns-clause-settles g c =
    subst (Settles c.args.self.now) (sym c.self-2.view_is)
    (settles_then _ _ _
    (settles_then _ _ _ (subst (λ (s : State). Settles s c.commit_all.new.self) c.self.view_is c.commit_all.ensures.settles.0) c.publish_all.ensures.settles.0)
    (dispatching_settles _ _ c.dispatch_all.ensures.same))
