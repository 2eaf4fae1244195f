use Rattle.std.proofs.Common.{List, ◌≡◌, ◌+◌, ◌≤◌, ◌∙◌, ap, sym, subst}
use Rattle.store_trait.specs.declared.Op.{Op}
use Rattle.published.specs.Book.{operations_of}
use Rattle.published.specs.History.{IsHistory, gnos_of, commits_in, count_above}
use Rattle.published.proofs.Above.{history_above}
use Rattle.published.proofs.Histories.{low_in_order, low_within}
use Rattle.published.proofs.book.Notice.upto.Goals as goal

pub returns-clause-in_order : goal.returns-clause-in_order
returns-clause-in_order g c order =
    c.self.invariant.1
    ∙ low_in_order (operations_of c.self.inside.seen.log) (subst (λ p. IsHistory p (operations_of c.self.inside.seen.log)) order c.self.invariant.3)
    ∙ ap commits_in c.self.view_is

pub returns-clause-within : goal.returns-clause-within
returns-clause-within g c =
    subst (λ (ops : List Op). c.self.inside.upto ≤ commits_in ops) c.self.view_is
    (subst (λ n. n ≤ commits_in (operations_of c.self.inside.seen.log)) (sym c.self.invariant.1) (low_within g.J.Naming.preserve (operations_of c.self.inside.seen.log) c.self.invariant.3))

pub returns-clause-above : goal.returns-clause-above
returns-clause-above g c =
    subst (λ (ops : List Op). count_above c.self.inside.upto (gnos_of ops) + c.self.inside.upto ≡ commits_in ops) c.self.view_is
    (subst (λ n. count_above n (gnos_of (operations_of c.self.inside.seen.log)) + n ≡ commits_in (operations_of c.self.inside.seen.log)) (sym c.self.invariant.1)
    (history_above g.J.Naming.preserve (operations_of c.self.inside.seen.log) c.self.invariant.3))
