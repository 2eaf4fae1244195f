use Rattle.std.proofs.Common.{◌∙◌, sym}
use Rattle.published.specs.History.{gnos_of}
use Rattle.replica_shared.proofs.Awaiting.{set_from_one, set_among}
use Rattle.replica_shared.proofs.Told.{ok_weaker, err_weaker, among, told_set, told_greatest}
use Rattle.replica_shared.proofs.shared.SharedReplica.wait_for_ids.Goals as goal

pub wait_for_each-requires : goal.wait_for_each-requires
wait_for_each-requires g c = set_from_one c.args.set.now c.intervals-ids.result.now c.intervals-ids.ensures.value c.intervals-ids.ensures.valid

pub returns-then-not-preserve-clause-has : goal.returns-then-not-preserve-clause-has
returns-then-not-preserve-clause-has g c =
    ok_weaker _ _ c.wait_for_each.result (λ ops all. among c.args.set.now c.intervals-ids.result.now (gnos_of ops) c.intervals-ids.ensures.value all) c.wait_for_each.ensures.all

pub returns-then-not-preserve-clause-stop : goal.returns-then-not-preserve-clause-stop
returns-then-not-preserve-clause-stop g c =
    let ids = c.intervals-ids in
    err_weaker _ _ c.wait_for_each.result (λ fault stop. told_set ids.ensures.value ids.ensures.valid stop) c.wait_for_each.ensures.stop

pub returns-clause-has : goal.returns-clause-has
returns-clause-has g c =
    ok_weaker _ _ c.wait_for_each-2.result
    (λ ops all. set_among
    (gnos_of ops) c.args.set.now c.greatest.result c.unwrap_or-last.result c.intervals-ids.ensures.valid c.greatest.ensures c.unwrap_or-last.ensures all)
    c.wait_for_each-2.ensures.all

pub returns-clause-stop : goal.returns-clause-stop
returns-clause-stop g c =
    err_weaker _ _ c.wait_for_each-2.result
    (λ fault stop. told_greatest c.greatest.result (sym c.requires ∙ c.if-not-preserve.false) c.greatest.ensures c.unwrap_or-last.ensures stop)
    c.wait_for_each-2.ensures.stop
