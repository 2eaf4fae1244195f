use Rattle.std.proofs.Common.{◌∙◌, ◌≤◌, ap, length, arith}
use Rattle.row_locks.specs.Held.{Side, locks_in}
use Rattle.row_locks.proofs.Places.{place_kept}
use Rattle.row_locks.proofs.sessions.Sessions.reserve.Goals as goal

pub invariant_of-self-2 : goal.invariant_of-self-2
invariant_of-self-2 c =
    let some : 1 ≤ length c.self.inside.places.items = omega (arith, c.in_ok-place.ensures.places, ap (λ (s : Side). length s.places) c.self.view_is) in
    rw (
      place_kept c.self.inside.places.items c.self.inside.tally.map c.args.session (c.requires.least, c.requires.greatest) c.self.invariant some c.index_mut.result.now c.index_mut.ensures.value
          c.reserve-2.new.self c.reserve-2.ensures.map,
      c.reserve.ensures.map,
    )
    c.self.invariant

pub returns-clause-locks : goal.returns-clause-locks
returns-clause-locks c =
    let some : 1 ≤ length c.self.inside.places.items = omega (arith, c.in_ok-place.ensures.places, ap (λ (s : Side). length s.places) c.self.view_is) in
    place_kept c.self.inside.places.items c.self.inside.tally.map c.args.session (c.requires.least, c.requires.greatest) c.self.invariant some c.index_mut.result.now c.index_mut.ensures.value
    c.reserve-2.new.self c.reserve-2.ensures.map
    ∙ ap locks_in c.self.view_is ∙ c.in_ok-place.ensures.locks
