use Rattle.std.proofs.Common.{subst, List}
use Rattle.writeset_history.specs.declared.slots.Slot.{Slot}
use Rattle.writeset_history.specs.Slots.{EndsAt, HasNoEnd}
use Rattle.writeset_history.proofs.Moves.{has_end, entered_one, entered-sound}
use Rattle.writeset_history.proofs.History.enter_one.Goals as goal

pub probe-place-requires : goal.probe-place-requires
probe-place-requires c none =
    let a = c.self.inside in
    has_end a.slots.items a.start a.limit a.len c.self.invariant c.args.digest (subst (λ (slots : List Slot). HasNoEnd slots a.start c.args.digest) c.deref.ensures.value none)

pub invariant_of-self : goal.invariant_of-self
invariant_of-self c =
    let a = c.self.inside in
    let ends = subst (λ (slots : List Slot). EndsAt slots a.start c.args.digest c.probe-place.result) c.deref.ensures.value c.probe-place.ensures in
    rw c.from.ensures
    (entered-sound a.slots.items a.start a.limit a.len c.self.invariant c.args.self.now c.self.view_is c.args.digest c.probe-place.result c.args.sequence ends c.requires.above
    c.index.result.now c.is_live.result c.index.ensures c.is_live.ensures c.requires.room)

pub returns : goal.returns
returns c =
    let a = c.self.inside in
    let ends = subst (λ (slots : List Slot). EndsAt slots a.start c.args.digest c.probe-place.result) c.deref.ensures.value c.probe-place.ensures in
    entered_one a.slots.items a.start a.limit a.len c.self.invariant c.args.self.now c.self.view_is c.args.digest c.probe-place.result c.args.sequence ends c.requires.above
