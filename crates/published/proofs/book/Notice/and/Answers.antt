use Rattle.std.proofs.Common.{◌≡◌, ◌++◌, sym, ◌∙◌, ap, subst}
use Rattle.scheduler.specs.Gnos.{low_of}
use Rattle.published.specs.Book.{operations_of}
use Rattle.published.specs.History.{IsHistory, IsWithin, gnos_of, commits_in}
use Rattle.published.proofs.Histories.{begun}
use Rattle.published.proofs.Adding.{adds_moves, added}
use Rattle.published.proofs.book.Notice.and.Goals as goal

pub compare_exchange-found-requires : goal.compare_exchange-found-requires
compare_exchange-found-requires g c =
    let h = c.args.head.now.word_is in
    let seen = c.again-seen.ensures in
    let offer = c.plain-offer.ensures in
    let pen = c.no_pen-pen.ensures in
    let ops = g.M.Plain.ask c.args.of.now in
    let v = operations_of c.self.inside.seen.log in
    let size : c.args.count ≡ commits_in (v ++ ops) = rw c.self.view_is c.requires.number in (
      ap (λ w. w.tracked) h,
      ap (λ s. s.book) seen ∙ c.self.invariant.2 ∙ sym (ap (λ w. w.book) h),
      pen.0 ∙ (ap (λ s. s.book) seen ∙ c.self.invariant.2 ∙ sym (ap (λ w. w.book) h)),
      offer.0,
      rw (ap (λ w. w.key) h, pen.1, offer.1, offer.3, ap (λ s. s.log) seen)
          (adds_moves c.self.inside.seen.log ops c.self.inside.count c.args.count _
          (record { number = sym c.self.invariant.0; begun = begun _ _ c.self.invariant.3; size = size })),
    )

pub invariant_of-result : goal.invariant_of-result
invariant_of-result g c =
    let ops = g.M.Plain.ask c.args.of.now in
    let v = operations_of c.self.inside.seen.log in
    let w = operations_of c.compare_exchange-found.new.seen.log in
    let told = added _ _ c.again-seen.result.log c.compare_exchange-found.new.seen.log _ c.if-found-self.false c.compare_exchange-found.ensures.7 in
    let longer : w ≡ v ++ ops = told ∙ ap (λ o. operations_of c.again-seen.result.log ++ o) c.plain-offer.ensures.1 ∙ ap (λ s. operations_of s.log ++ ops) c.again-seen.ensures in
    let whole : c.args.self.now ++ ops ≡ w = rw (← c.self.view_is) (sym longer) in (
      c.requires.number ∙ ap commits_in whole,
      c.requires.mark ∙ ap (λ l. low_of (gnos_of l)) whole,
      c.compare_exchange-found.ensures.0 ∙ ap (λ s. s.book) c.again-seen.ensures ∙ c.self.invariant.2,
      subst (IsHistory g.J.Naming.preserve) whole c.requires.history,
      subst (IsWithin g.J.Naming.known) whole c.requires.within,
    )
