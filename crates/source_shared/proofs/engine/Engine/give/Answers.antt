use Rattle.std.proofs.Common.{◌++◌, ap, sym, ◌∙◌}
use Rattle.source_shared.specs.Engine.{laid}
use Rattle.source_shared.proofs.Places.{are_known, then_all, placed_longer}
use Rattle.source_shared.proofs.Settled.{given_settled, given_is}
use Rattle.source_shared.proofs.engine.Engine.give.Goals as goal

pub place_all-requires-clause-known : goal.place_all-requires-clause-known
place_all-requires-clause-known g c = λ k d h.
    are_known _ c.in_ok-given.ensures.sound _ _ _ c.self.invariant.receipts.history_is (c.add-given.ensures.given ∙ c.in_ok-given.ensures.receipts)
    (c.add-given.ensures.history ∙ ap (λ l. c.self.inside.history ++ l) (sym c.add-given.ensures.given)) k d h

pub place_all-requires-clause-placed : goal.place_all-requires-clause-placed
place_all-requires-clause-placed g c = rw c.add-given.ensures.history (placed_longer _ _ _ _ c.self.invariant.receipts.placed)

pub invariant_of-self-2 : goal.invariant_of-self-2
invariant_of-self-2 g c =
    let all = then_all _ c.in_ok-given.ensures.sound _ _ _ c.self.invariant.receipts.history_is c.in_ok-given.ensures.receipts c.add-given.ensures.history in
    given_settled _ _ _ _ _ _ c.in_ok-given.ensures.ok c.place_all.ensures.placed c.place_all.ensures.places all c.self.invariant

pub returns-clause-ok : goal.returns-clause-ok
returns-clause-ok g c =
    let all = then_all _ c.in_ok-given.ensures.sound _ _ _ c.self.invariant.receipts.history_is c.in_ok-given.ensures.receipts c.add-given.ensures.history in
    let places = c.place_all.ensures.laid ∙ ap (λ l. laid l c.self.inside.places.items) (c.add-given.ensures.given ∙ c.in_ok-given.ensures.receipts) in
    given_is _ _ _ _ _ c.self.view_is c.in_ok-given.ensures.ok places all
