use Rattle.std.proofs.Common.{◌∙◌, ap, sym, nat_lt, arith}
use Rattle.std.specs.FinMap.{get}
use Rattle.row_locks.specs.Mode.{weight}
use Rattle.row_locks.specs.Held.{locks_of}
use Rattle.row_locks.specs.Locks.{held_by}
use Rattle.row_locks.proofs.Tied.{clashes_exactly, none_below}
use Rattle.row_locks.proofs.Places.{own, some_counted, within}
use Rattle.row_locks.proofs.sessions.Sessions.clashes.Goals as goal

pub index-requires : goal.index-requires
index-requires g c =
    let some = some_counted c.self.inside.places.items c.self.inside.tally.map c.opposing-opposing.result c.lock-mode.result.0 c.lock-mode.result.1 c.self.invariant
    c.opposing-opposing.ensures c.if-opposing-eq0.false in
    omega (arith, within c.self.inside.places.items c.self.inside.tally.map c.args.session (c.requires.least, c.requires.greatest) c.self.invariant some, c.self.inside.places.ok)

pub returns : goal.returns
returns g c =
    let some = some_counted c.self.inside.places.items c.self.inside.tally.map c.opposing-opposing.result c.lock-mode.result.0 c.lock-mode.result.1 c.self.invariant
    c.opposing-opposing.ensures c.if-opposing-eq0.false in
    let here = own c.self.inside.places.items c.self.inside.tally.map c.args.session (c.requires.least, c.requires.greatest) c.self.invariant some c.index.result.now c.index.ensures in
    rw (← c.lock-mode.ensures, ← c.self.view_is, c.weight.ensures, c.get-own.ensures, here, c.opposing-opposing.ensures)
    (clashes_exactly (locks_of c.self.inside.places.items) c.self.inside.tally.map c.args.session c.requires.least c.requires.greatest c.self.invariant c.lock-mode.result.0 c.lock-mode.result.1)

-- where none holds it in a way that clashes, no other does
pub returns-then-opposing-eq0 : goal.returns-then-opposing-eq0
returns-then-opposing-eq0 g c =
    let own = weight (get (held_by (locks_of c.self.inside.places.items) c.args.session) c.lock-mode.result.0) c.lock-mode.result.1 in
    rw (← c.lock-mode.ensures, ← c.self.view_is) (sym (none_below own) ∙ ap (nat_lt own) (sym c.if-opposing-eq0.true ∙ c.opposing-opposing.ensures)
    ∙ clashes_exactly (locks_of c.self.inside.places.items) c.self.inside.tally.map c.args.session c.requires.least c.requires.greatest c.self.invariant c.lock-mode.result.0 c.lock-mode.result.1)
