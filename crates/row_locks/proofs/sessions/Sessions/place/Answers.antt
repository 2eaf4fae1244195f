use Rattle.std.proofs.Common.{◌≡◌, ◌∙◌, ap, length, rules, arith}
use Rattle.row_locks.specs.Held.{locks_in, locks_of}
use Rattle.row_locks.proofs.Places.{made_places}
use Rattle.row_locks.proofs.sessions.Sessions.place.Goals as goal

same : (c : goal.After-drop-self-inside) → locks_of c.in_ok-self-inside.field-0.items ≡ locks_of c.self.inside.places.items
same c =
    let none : length c.self.inside.places.items ≡ 0 = search (rules, arith) in
    made_places c.self.inside.places.items c.in_ok-self-inside.field-0.items none c.in_ok-self-inside.ensures

pub invariant_of-self : goal.invariant_of-self
invariant_of-self c = rw (same c) c.self.invariant

pub returns-in_ok-self-inside-clause-locks : goal.returns-in_ok-self-inside-clause-locks
returns-in_ok-self-inside-clause-locks c = same c ∙ ap locks_in c.self.view_is
