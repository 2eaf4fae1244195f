use Rattle.std.proofs.Common.{sym, ap, ◌∙◌}
use Rattle.source_shared.proofs.Moving.{adds_moves, next_turn}
use Rattle.source_shared.proofs.book.History.add.Goals as goal

pub compare_exchange-requires : goal.compare_exchange-requires
compare_exchange-requires g c =
    let h = c.self.invariant.0 in
    let offer = c.plain-offer.ensures in
    let name = sym (ap (λ w. w.book) h) in (
      ap (λ w. w.tracked) h,
      c.self.invariant.1 ∙ name,
      c.self.invariant.2 ∙ name,
      offer.0,
      rw (ap (λ w. w.key) h) (adds_moves c.self.inside.seen.log c.self.inside.pen.nib c.plain-offer.result.state c.plain-offer.result.ask c.self.invariant.3),
    )

pub invariant_of-self : goal.invariant_of-self
invariant_of-self g c = (
  c.self.invariant.0,
  c.compare_exchange.ensures.0 ∙ c.self.invariant.1,
  c.new_pen-next.ensures.book ∙ c.self.invariant.1,
  next_turn _ _ c.plain-offer.result.ask _ _ c.new_pen-next.ensures.right c.plain-offer.ensures.1 c.compare_exchange.ensures.7,
)
