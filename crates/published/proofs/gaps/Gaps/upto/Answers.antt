use Rattle.std.proofs.Common.{◌≡◌, ◌+◌, ◌≤◌, ◌∙◌, ap, subst, length, arith}
use Rattle.scheduler.specs.Gnos.{low_of}
use Rattle.published.specs.Gaps.{Noted}
use Rattle.published.proofs.Numbers.{mark_is_low, count_noted}
use Rattle.published.proofs.Above.{noted_above}
use Rattle.published.specs.History.{count_above}
use Rattle.published.proofs.gaps.Gaps.upto.Goals as goal

pub returns-clause-mark : goal.returns-clause-mark
returns-clause-mark c = mark_is_low c.self.inside.upto _ c.self.inside.ahead.items c.self.invariant ∙ ap (λ (n : Noted). low_of n.gnos) c.self.view_is

pub returns-clause-within : goal.returns-clause-within
returns-clause-within c =
    subst (λ (n : Noted). c.self.inside.upto ≤ length n.gnos) c.self.view_is (omega (arith, count_noted c.self.inside.upto c.self.inside.ahead.items))

pub returns-clause-above : goal.returns-clause-above
returns-clause-above c =
    subst (λ (n : Noted). count_above c.self.inside.upto n.gnos + c.self.inside.upto ≡ length n.gnos) c.self.view_is (noted_above c.self.inside.upto _ c.self.inside.ahead.items c.self.invariant)
