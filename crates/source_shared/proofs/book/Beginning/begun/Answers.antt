use Rattle.std.proofs.Common.{sym, ap, ◌∙◌}
use Rattle.source_shared.proofs.Moving.{begins_moves}
use Rattle.source_shared.proofs.book.Beginning.begun.Goals as goal

pub compare_exchange-found-requires : goal.compare_exchange-found-requires
compare_exchange-found-requires g c =
    let h = c.self.invariant in
    let offer = c.plain-offer.ensures in
    let pen = c.no_pen-none.ensures in
    let book = sym (ap (λ w. w.book) h) in (
      ap (λ w. w.tracked) h,
      book,
      pen.0 ∙ book,
      offer.0,
      rw (ap (λ w. w.key) h) (begins_moves c.self.inside.seen.log c.no_pen-none.result.nib c.plain-offer.result.state c.plain-offer.result.ask),
    )
