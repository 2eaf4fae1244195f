use Rattle.std.proofs.Common.{◌≡◌, ◌∙◌, ap, refl, Err}
use Rattle.replica_core.specs.Calls.{left_by_fault}
use Rattle.replica_shared.proofs.Keeping.{still_out}
use Rattle.replica_shared.proofs.Stops.{stops_refused}
use Rattle.replica_shared.proofs.Whole.{whole_refused}
use Rattle.replica_shared.proofs.coordinator.Coordinator.finish.Goals as goal

pub take_back-requires : goal.take_back-requires
take_back-requires g c lacks =
    let was = c.self.inside.core in
    let left : c.finish.new.self ≡ was = c.in-Err.ensures.err ∙ ap (left_by_fault was) lacks in
    let back = c.in-Err.ensures.back in
    rw (left, back) (c.finish.ensures.sound, still_out was c.in-Err.fault c.args.done c.in-Err.done (Err (c.in-Err.fault, c.in-Err.done)) refl lacks c.in-Err.ensures.refused)

pub invariant_of-self-in-Err : goal.invariant_of-self-in-Err
invariant_of-self-in-Err g c =
    let told = c.in-Err.ensures in
    let stops = stops_refused c.self.inside.core c.args.done c.in-Err.done c.in-Err.fault (Err (c.in-Err.fault, c.in-Err.done)) refl
    (record { of_job = c.requires; sound = c.finish.ensures.sound; refused = told.refused; other = told.other; taken = told.taken }) c.self.invariant.stops in
    whole_refused c.self.invariant c.in-Err.fault told.err stops
