use Rattle.std.proofs.Common.{List, sym, ap, subst, ◌∙◌}
use mathlib.Core.List.{IsPrefix}
use Rattle.source_shared.specs.Book.{Part}
use Rattle.source_shared.proofs.Moving.{checks_moves, found}
use Rattle.source_shared.proofs.book.History.find.Goals as goal

pub compare_exchange-requires : goal.compare_exchange-requires
compare_exchange-requires g c =
    let h = c.self.invariant.0 in
    let offer = c.plain-offer.ensures in
    let name = sym (ap (λ w. w.book) h) in (
      ap (λ w. w.tracked) h,
      c.learn.ensures.0 ∙ ap (λ s. s.book) c.again-seen.ensures ∙ c.self.invariant.1 ∙ name,
      c.self.invariant.2 ∙ name,
      offer.0,
      rw (ap (λ w. w.key) h) (checks_moves c.learn.new.self.log c.self.inside.pen.nib c.plain-offer.result.state c.plain-offer.result.ask c.self.invariant.3.right),
    )

pub returns-clause-found : goal.returns-clause-found
returns-clause-found g c =
    let all = c.learn.new.self.log in
    let mine : IsPrefix c.self.inside.seen.log all = subst (λ (l : List Part). IsPrefix l all) (ap (λ s. s.log) c.again-seen.ensures) c.learn.ensures.2 in
    let told = c.compare_exchange.ensures.7.1 in
    rw (← c.self.view_is, ← c.receipt.view_is) (
      c.receipt.invariant.1.0,
      found c.self.inside.seen.log all _ c.receipt.inside.seen.log c.self.inside.pen.nib _ _ c.self.invariant.3 mine c.learn.ensures.3 c.compare_exchange.ensures.6 told c.receipt.invariant.1.1,
    )
