use Rattle.replica_shared.proofs.Told.{ok_both, among_in_order}
use Rattle.replica_shared.proofs.shared.SharedReplica.wait_for_set.Goals as goal

pub returns-in_default-clause-in_order : goal.returns-in_default-clause-in_order
returns-in_default-clause-in_order g c order =
    ok_both _ _ _ c.wait_for_ids.result (λ ops are h. among_in_order _ ops c.args.set.now order h are) c.wait_for_ids.ensures.has c.wait_for_ids.ensures.history
