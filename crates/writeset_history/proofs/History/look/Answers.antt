use Rattle.std.proofs.Common.{◌∙◌, sym, subst, true, false, List}
use Rattle.writeset_history.specs.declared.slots.Slot.{Slot}
use Rattle.writeset_history.specs.Slots.{EndsAt, HasNoEnd}
use Rattle.writeset_history.proofs.Moves.{has_end, number_at}
use Rattle.writeset_history.proofs.History.look.Goals as goal

pub probe-requires : goal.probe-requires
probe-requires c none =
    let a = c.self.inside in
    has_end a.slots.items a.start a.limit a.len c.self.invariant c.args.digest (subst (λ (slots : List Slot). HasNoEnd slots a.start c.args.digest) c.deref.ensures.value none)

pub returns-then-is_live : goal.returns-then-is_live
returns-then-is_live c =
    let a = c.self.inside in
    number_at a.slots.items a.start a.limit a.len c.self.invariant c.args.self.now c.self.view_is c.args.digest c.probe.result c.index-slot.result.now true
    (subst (λ (slots : List Slot). EndsAt slots a.start c.args.digest c.probe.result) c.deref.ensures.value c.probe.ensures)
    c.index-slot.ensures (sym c.if-is_live.true ∙ c.is_live.ensures)

pub returns-else-is_live : goal.returns-else-is_live
returns-else-is_live c =
    let a = c.self.inside in
    number_at a.slots.items a.start a.limit a.len c.self.invariant c.args.self.now c.self.view_is c.args.digest c.probe.result c.index-slot.result.now false
    (subst (λ (slots : List Slot). EndsAt slots a.start c.args.digest c.probe.result) c.deref.ensures.value c.probe.ensures)
    c.index-slot.ensures (sym c.if-is_live.false ∙ c.is_live.ensures)
