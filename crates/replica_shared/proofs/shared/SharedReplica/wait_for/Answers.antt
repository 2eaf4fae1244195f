use Rattle.replica_shared.proofs.Told.{ok_weaker, err_weaker, ok_both, upto_in_order, told_upto}
use Rattle.replica_shared.proofs.Awaiting.{up_to_low}
use Rattle.published.specs.History.{gnos_of}
use Rattle.replica_shared.proofs.shared.SharedReplica.wait_for.Goals as goal

pub returns-clause-upto : goal.returns-clause-upto
returns-clause-upto g c = ok_weaker _ _ c.wait_for_each.result (λ ops all. up_to_low (gnos_of ops) c.args.gno all) c.wait_for_each.ensures.all

pub returns-clause-in_order : goal.returns-clause-in_order
returns-clause-in_order g c order = ok_both _ _ _ c.wait_for_each.result (λ ops all h. upto_in_order _ ops c.args.gno order h all) c.wait_for_each.ensures.all c.wait_for_each.ensures.history

pub returns-clause-stop : goal.returns-clause-stop
returns-clause-stop g c = err_weaker _ _ c.wait_for_each.result (λ fault stop. told_upto stop) c.wait_for_each.ensures.stop
