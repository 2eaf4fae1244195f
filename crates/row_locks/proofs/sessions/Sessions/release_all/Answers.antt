use Rattle.std.proofs.Common.{◌≡◌, ◌∙◌, ◌≤◌, ap, length, rules, arith}
use Rattle.row_locks.specs.Held.{Side, locks_in}
use Rattle.row_locks.specs.Locks.{released}
use Rattle.row_locks.proofs.Places.{counted_place, place_freed, place_freed_tied, nothing_freed}
use Rattle.row_locks.proofs.sessions.Sessions.release_all.Goals as goal

pub unlock_all-requires : goal.unlock_all-requires
unlock_all-requires c =
    let some : 1 ≤ length c.self.inside.places.items = search (rules, arith) in
    counted_place c.self.inside.places.items c.self.inside.tally.map c.args.session (c.requires.least, c.requires.greatest) c.self.invariant some c.index_mut.result.now c.index_mut.ensures.value

pub invariant_of-self : goal.invariant_of-self
invariant_of-self c =
    let some : 1 ≤ length c.self.inside.places.items = search (rules, arith) in
    place_freed_tied c.self.inside.places.items c.self.inside.tally.map c.args.session (c.requires.least, c.requires.greatest) c.self.invariant some c.index_mut.result.now c.index_mut.ensures.value
    c.unlock_all.new.held c.unlock_all.new.tally.map c.unlock_all.ensures.counts c.unlock_all.ensures.held

pub returns-then-not-is_empty-clause-no_clash : goal.returns-then-not-is_empty-clause-no_clash
returns-then-not-is_empty-clause-no_clash c = (invariant_of-self c).no_clash

pub returns-then-not-is_empty-clause-released : goal.returns-then-not-is_empty-clause-released
returns-then-not-is_empty-clause-released c =
    let some : 1 ≤ length c.self.inside.places.items = search (rules, arith) in
    place_freed c.self.inside.places.items c.self.inside.tally.map c.args.session (c.requires.least, c.requires.greatest) c.self.invariant some c.index_mut.result.now c.index_mut.ensures.value
    c.unlock_all.new.held c.unlock_all.ensures.held
    ∙ ap (λ (s : Side). released (locks_in s) c.args.session) c.self.view_is

pub returns-else-not-is_empty-clause-released : goal.returns-else-not-is_empty-clause-released
returns-else-not-is_empty-clause-released c =
    let none : length c.self.inside.places.items ≡ 0 = search (rules, arith) in
    rw (← c.self.view_is) (nothing_freed c.self.inside.places.items c.args.session none)
