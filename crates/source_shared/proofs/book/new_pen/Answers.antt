use Rattle.std.proofs.Common.{sym, ap, ◌∙◌}
use Rattle.source_shared.proofs.Moving.{reserves_moves}
use Rattle.source_shared.proofs.book.new_pen.Goals as goal

pub compare_exchange-requires : goal.compare_exchange-requires
compare_exchange-requires c =
    let h = c.requires in
    let seen = c.again-seen.ensures in
    let offer = c.plain-offer.ensures in
    let pen = c.no_pen-pen.ensures in
    let book = ap (λ s. s.book) seen ∙ sym (ap (λ w. w.book) h) in (
      ap (λ w. w.tracked) h,
      book,
      pen.0 ∙ book,
      offer.0,
      rw (ap (λ w. w.key) h) (reserves_moves c.again-seen.result.log c.no_pen-pen.result.nib c.plain-offer.result.state c.plain-offer.result.ask),
    )
