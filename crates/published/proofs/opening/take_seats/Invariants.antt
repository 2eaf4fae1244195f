use Rattle.std.proofs.Common.{◌≡◌, ◌≤◌, replicate, vec_capacity}
use Rattle.published.proofs.opening.take_seats.Given as goal

abbrev pub invariant-loop : goal.invariant-loop
invariant-loop g l = (l.places.items ≡ replicate l.counter l.publisher.published) × (l.seats ≤ vec_capacity l.places)
