use Rattle.std.proofs.Common.{rules, subst, sym}
use Rattle.published.specs.Status.{Reported, NoneFalls, latest}
use Rattle.published.proofs.Words.{stores}
use Rattle.published.proofs.status.Status.store.Goals as goal

pub swap_as-requires : goal.swap_as-requires
swap_as-requires g c =
    let rises = subst (λ (r : Reported). NoneFalls (latest r.stored) c.args.counts) (sym c.self.view_is) c.requires.rises in
    (search rules, (search rules, (search rules, (λ x. stores _ _ x c.args.counts c.self.invariant.1 c.requires.in_order rises))))
