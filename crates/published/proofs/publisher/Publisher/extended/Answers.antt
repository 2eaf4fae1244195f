use Rattle.std.proofs.Common.{◌≡◌, ◌++◌, subst}
use Rattle.scheduler.specs.Gnos.{low_of}
use Rattle.published.specs.History.{IsHistory, IsWithin, gnos_of, commits_in}
use Rattle.published.specs.Publication.{Publishing, unsaid}
use Rattle.published.proofs.Steps.{whole_history, whole_within, whole_number, whole_mark}
use Rattle.published.proofs.publisher.Publisher.extended.Goals as goal

pub and-requires-clause-history : goal.and-requires-clause-history
and-requires-clause-history g c =
    subst (λ (p : Publishing). IsHistory g.J.Naming.preserve (c.self.inside.history ++ unsaid p)) c.self.view_is (whole_history c.self.invariant)

pub and-requires-clause-number : goal.and-requires-clause-number
and-requires-clause-number g c =
    subst (λ (p : Publishing). c.count-count.result ≡ commits_in (c.self.inside.history ++ unsaid p)) c.self.view_is (whole_number c.self.invariant c.count-count.ensures)

pub and-requires-clause-mark : goal.and-requires-clause-mark
and-requires-clause-mark g c =
    subst (λ (p : Publishing). c.upto-upto.result ≡ low_of (gnos_of (c.self.inside.history ++ unsaid p))) c.self.view_is (whole_mark c.self.invariant c.upto-upto.ensures.mark)

pub and-requires-clause-within : goal.and-requires-clause-within
and-requires-clause-within g c =
    subst (λ (p : Publishing). IsWithin g.J.Naming.known (c.self.inside.history ++ unsaid p)) c.self.view_is (whole_within c.self.invariant)
