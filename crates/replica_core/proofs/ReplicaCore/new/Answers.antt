use Rattle.std.proofs.Common.{refl, [], arith}
use Rattle.replica_core.proofs.Kept.{holds}
use Rattle.replica_core.proofs.Steps.{new_kept}
use Rattle.replica_core.proofs.ReplicaCore.new.Goals as goal

pub invariant_of-result : goal.invariant_of-result
invariant_of-result g c =
    rw c.new-2.ensures
    (holds (new_kept (record { tables = c.args.schema; source = c.args.source; accepted = []; gone = 0 }) _ _ c.args.preserve _ _ _ _ _ _ _
    (record { marks_are = c.new-3.ensures; order_is = c.new-4.ensures.items; line_is = c.in_ok-turns.ensures; handed_is = c.in_ok-handed.ensures.items; ops_are = c.new-5.ensures.items })
    refl c.requires.apart c.in_ok-base.ensures.loads c.in_ok-index.ensures c.requires.some c.requires.few) (record { within = omega arith; none = λ _. refl }))
