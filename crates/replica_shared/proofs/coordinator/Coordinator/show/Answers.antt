use Rattle.std.proofs.Common.{sym, arith}
use Rattle.replica_shared.proofs.Standing.{appended_within}
use Rattle.replica_shared.proofs.coordinator.Coordinator.show.Goals as goal

pub publish-requires-2-clause-done : goal.publish-requires-2-clause-done
publish-requires-2-clause-done g c =
    let least = appended_within c.self.invariant.stand in
    let upto = c.in_ok-upto.ensures.number.1 in
    let number = c.self.invariant.stand.number in
    omega arith

pub returns-in_err-publish-clause-later : goal.returns-in_err-publish-clause-later
returns-in_err-publish-clause-later g c = rw (← c.self.view_is) (c.self.inside.publisher.waiting, sym c.in_ok-upto.ensures.published)

pub returns-clause-later : goal.returns-clause-later
returns-clause-later g c = rw (← c.self.view_is) (c.self.inside.publisher.waiting, sym c.in_ok-upto.ensures.published)
