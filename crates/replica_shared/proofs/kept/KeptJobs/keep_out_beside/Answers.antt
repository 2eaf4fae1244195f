use Rattle.std.proofs.Common.{◌≡◌, subst, List, rules}
use Rattle.std.proofs.lemmas.Fn.{filter_same}
use Rattle.executor.specs.declared.Job.{Job}
use Rattle.replica_shared.specs.Together.{out_beside}
use Rattle.replica_shared.proofs.kept.KeptJobs.keep_out_beside.Goals as goal

pub returns : goal.returns
returns g c =
    subst (λ (kept : List Job). c.retain.new.self.items ≡ out_beside c.args.core.now c.args.gno kept) c.self.view_is
    (filter_same _ _ _ (λ x b f' k. search rules) _ _ c.retain.ensures.filtered)
