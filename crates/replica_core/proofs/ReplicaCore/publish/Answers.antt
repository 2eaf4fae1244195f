use Rattle.std.proofs.Common.{◌≤◌, length, ap, arith}
use Rattle.replica_core.specs.Replica.{Replica}
use Rattle.replica_core.proofs.Kept.{holds, length_ops, kept_published, shows_gapped}
use Rattle.replica_core.proofs.ReplicaCore.publish.Goals as goal

pub drop_first-requires : goal.drop_first-requires
drop_first-requires g c =
    let count = length_ops c.self.invariant.parts in
    let committed = ap (λ (r : Replica). length r.commits) c.self.view_is in
    omega (arith, c.requires.done)

pub invariant_of-self : goal.invariant_of-self
invariant_of-self g c =
    let committed = ap (λ (r : Replica). length r.commits) c.self.view_is in
    let later : c.self.inside.published ≤ c.args.upto = omega (arith, c.requires.later, ap (λ (r : Replica). r.published) c.self.view_is) in
    rw c.drop_first.ensures (holds (kept_published c.self.invariant.parts c.args.upto later (omega (arith, c.requires.done))) c.self.invariant.kept)

pub returns-clause-gapped : goal.returns-clause-gapped
returns-clause-gapped g c =
    let committed = ap (λ (r : Replica). length r.commits) c.self.view_is in
    shows_gapped (invariant_of-self g c).parts c.args.upto (omega (arith, c.requires.done))
