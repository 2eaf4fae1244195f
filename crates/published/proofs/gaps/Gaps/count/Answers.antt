use Rattle.std.proofs.Common.{rules, ◌+◌, ◌≤◌, ◌∙◌, ap, length}
use Rattle.core.specs.declared.int.u64.TheConstants.{MAX}
use Rattle.published.specs.Gaps.{Noted}
use Rattle.published.proofs.Numbers.{count_fits, count_noted}
use Rattle.published.proofs.gaps.Gaps.count.Goals as goal

pub overflow_add-result : goal.overflow_add-result
overflow_add-result c =
    let few = λ (le : c.self.inside.upto ≤ MAX). count_fits c.self.inside.upto MAX c.self.inside.ahead.items le c.self.invariant in
    search (rules, few)

pub returns : goal.returns
returns c = ap (λ n. c.self.inside.upto + n) (search rules) ∙ count_noted c.self.inside.upto c.self.inside.ahead.items ∙ ap (λ (n : Noted). length n.gnos) c.self.view_is
