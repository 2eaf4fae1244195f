use Rattle.std.proofs.Common.{◌≡◌, ◌∙◌, ◌≤◌, ap, length, map, false, rules, arith}
use Rattle.row_locks.specs.Held.{Side, locks_in, locks_of}
use Rattle.row_locks.specs.Locks.{any_clashes, taken}
use Rattle.row_locks.proofs.Places.{counted_place, place_taken, place_taken_tied, nothing_taken, clashes_each}
use Rattle.row_locks.proofs.sessions.Sessions.lock.Goals as goal

pub lock_all-requires-clause-counted : goal.lock_all-requires-clause-counted
lock_all-requires-clause-counted g c =
    let some : 1 ≤ length c.self.inside.places.items = search (rules, arith) in
    counted_place c.self.inside.places.items c.self.inside.tally.map c.args.session (c.requires.least, c.requires.greatest) c.self.invariant some c.index_mut.result.now c.index_mut.ensures.value

pub invariant_of-self : goal.invariant_of-self
invariant_of-self g c =
    let some : 1 ≤ length c.self.inside.places.items = search (rules, arith) in
    let free = rw (← c.self.view_is) at c.requires.free in
    let clear : any_clashes (locks_of c.self.inside.places.items) c.args.session (map g.L.Lock.lock c.args.locks.now) ≡ false =
    clashes_each g.L.Lock.lock (locks_of c.self.inside.places.items) c.args.session c.args.locks.now ∙ free in
    place_taken_tied c.self.inside.places.items c.self.inside.tally.map c.args.session (c.requires.least, c.requires.greatest) c.self.invariant some c.index_mut.result.now c.index_mut.ensures.value
    c.lock_all.new.held c.lock_all.new.tally.map c.lock_all.ensures.counts (map g.L.Lock.lock c.args.locks.now) c.lock_all.ensures.held clear

pub returns-then-not-is_empty-clause-no_clash : goal.returns-then-not-is_empty-clause-no_clash
returns-then-not-is_empty-clause-no_clash g c = (invariant_of-self g c).no_clash

pub returns-then-not-is_empty-clause-taken : goal.returns-then-not-is_empty-clause-taken
returns-then-not-is_empty-clause-taken g c =
    let some : 1 ≤ length c.self.inside.places.items = search (rules, arith) in
    place_taken c.self.inside.places.items c.self.inside.tally.map c.args.session (c.requires.least, c.requires.greatest) c.self.invariant some c.index_mut.result.now c.index_mut.ensures.value
    c.lock_all.new.held (map g.L.Lock.lock c.args.locks.now) c.lock_all.ensures.held
    ∙ ap (λ (s : Side). taken (locks_in s) c.args.session (map g.L.Lock.lock c.args.locks.now)) c.self.view_is

pub returns-else-not-is_empty-clause-taken : goal.returns-else-not-is_empty-clause-taken
returns-else-not-is_empty-clause-taken g c =
    let none : length c.self.inside.places.items ≡ 0 = search (rules, arith) in
    let few = rw (← c.self.view_is) at c.requires.room in
    rw (← c.self.view_is) (nothing_taken g.L.Lock.lock c.self.inside.places.items c.args.session c.args.locks.now none few)
