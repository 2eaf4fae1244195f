use Rattle.std.proofs.Common.{◌≡◌, drop, ap, sym, ◌∙◌, ◌++◌, refl}
use Rattle.std.proofs.lemmas.Result.{err_from_is_err_and}
use Rattle.store_trait.specs.Operation.{left_by}
use Rattle.published.specs.VersionValue.{VersionValue}
use Rattle.published.specs.Copies.{puts_in}
use Rattle.published.specs.Publication.{Publishing, IsTied}
use Rattle.published.proofs.Steps.{settles, published_after, puts_in-note, tied_known, tied_shown, same_publishing, found}
use Rattle.published.proofs.publisher.Publisher.publish.Goals as goal

pub show-requires : goal.show-requires
show-requires g c =
    let published = c.self.inside.writer.desk.shown.value.by in
    let steps = drop c.self.inside.writer.behind c.self.inside.writer.log.items in
    let all = found _ _ _ c.extended.result c.self.view_is c.in-Some.is c.extended.ensures in
    let whole : c.again.result ≡ published ++ puts_in steps = c.again.ensures ∙ all in
    rw c.add.ensures.desk (settles _ published c.again.result steps _ c.self.invariant.left whole c.in_ok-add.ensures.ok)

pub invariant_of-self-in_err-show : goal.invariant_of-self-in_err-show
invariant_of-self-in_err-show g c =
    let steps = drop c.self.inside.writer.behind c.self.inside.writer.log.items in
    let all = found _ _ _ c.extended.result c.self.view_is c.in-Some.is c.extended.ensures in
    let waits = ap puts_in (c.in_err-show.ensures.err ∙ c.in_ok-add.ensures.ok) ∙ puts_in-note steps c.again.result in
    rw (c.in_err-show.ensures.same, c.add.ensures.desk, waits) (tied_known c.self.invariant all)

pub returns-in_err-show-clause-err : goal.returns-in_err-show-clause-err
returns-in_err-show-clause-err g c =
    let p = err_from_is_err_and c.from_residual-in_err-show.result c.from_residual-in_err-show.ensures.1 in
    let steps = drop c.self.inside.writer.behind c.self.inside.writer.log.items in
    let waits = ap puts_in (c.in_err-show.ensures.err ∙ c.in_ok-add.ensures.ok) ∙ puts_in-note steps c.again.result in
    let shown = ap (λ v. v.by) c.in_err-show.ensures.same ∙ ap (λ d. d.shown.value.by) c.add.ensures.desk in
    rw p.1 (same_publishing _ _ (shown ∙ ap (λ (v : Publishing). v.published) c.self.view_is) (waits ∙ ap (λ (v : Publishing). v.waiting) c.self.view_is) refl)

pub invariant_of-self-2 : goal.invariant_of-self-2
invariant_of-self-2 g c =
    let rows = g.S.RowStore.contents c.add.new.writer.desk.shown.value.store in
    let published = c.add.new.writer.desk.shown.value.by in
    let steps = drop c.self.inside.writer.behind c.self.inside.writer.log.items in
    let after = drop c.add.new.writer.behind c.add.new.writer.log.items in
    let p : Publishing = record { published = published; waiting = puts_in steps; history = c.self.inside.history } in
    let tied : IsTied g.J.Naming.preserve g.J.Naming.known rows p c.self.inside.appended.gnos = rw c.add.ensures.desk c.self.invariant in
    let known = found _ _ _ c.extended.result c.self.view_is c.in-Some.is c.extended.ensures in
    let all : c.in-Some.history ≡ published ++ puts_in steps = rw c.add.ensures.desk known in
    let whole : c.again.result ≡ published ++ puts_in steps = c.again.ensures ∙ all in
    let done = c.in_ok-show.ensures.shown in
    let settled = settles rows published c.again.result steps after tied.left whole c.in_ok-add.ensures.ok in
    let left = ap (λ (h : VersionValue). h.rows) done ∙ settled ∙ ap (λ (h : VersionValue). left_by h.by) (sym done) in
    let by = ap (λ (h : VersionValue). h.by) done ∙ published_after rows published c.again.result steps after c.in_ok-add.ensures.ok ∙ c.again.ensures in
    rw (ap puts_in c.in_ok-show.ensures.ok)
    (tied_shown (tied_known tied all) all left by)
