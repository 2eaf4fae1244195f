use Rattle.std.proofs.Common.{List, ap, subst, refl}
use mathlib.Core.List.{IsPrefix}
use Rattle.store_trait.specs.declared.Op.{Op}
use Rattle.published.specs.Book.{operations_of}
use Rattle.published.proofs.Histories.{begun, begins_by, prefix_of_operations, other_counts}
use Rattle.published.proofs.book.Notice.begins.Goals as goal

pub returns-clause-other : goal.returns-clause-other
returns-clause-other g c = λ none.
    rw (← c.self.view_is, ← c.other.view_is)
    (other_counts (operations_of c.self.inside.seen.log) (operations_of c.other.inside.seen.log) _ (rw (c.self.invariant.0, c.other.invariant.0) refl) none)

pub returns-clause-one : goal.returns-clause-one
returns-clause-one g c =
    let both = c.learn.new.self.log in
    let mine : IsPrefix c.self.inside.seen.log both = subst (λ (l : List (List Op)). IsPrefix l both) (ap (λ s. s.log) c.again-both.ensures) c.learn.ensures.2 in
    let begins = prefix_of_operations c.self.inside.seen.log both mine in
    let other = prefix_of_operations c.other.inside.seen.log both c.learn.ensures.3 in
    rw (c.self.invariant.0, c.other.invariant.0, ← c.self.view_is, ← c.other.view_is)
    (begins_by (operations_of c.self.inside.seen.log) (operations_of c.other.inside.seen.log) (operations_of both) begins other (begun _ _ c.self.invariant.3) (begun _ _ c.other.invariant.3) _ refl)
