use Rattle.std.proofs.Common.{arith}
use Rattle.std.proofs.lemmas.List.{length-append}
use Rattle.relay.proofs.Acceptable.{few_acceptable}
use Rattle.relay.proofs.Relay.count.Goals as goal

pub overflow_add-result : goal.overflow_add-result
overflow_add-result c =
    let was = c.self.inside in
    let few = few_acceptable _ _ c.self.invariant.acceptable in
    let both = length-append was.gone was.kept.items in
    record { fits = omega (arith, c.count.ensures) }
