use Rattle.std.proofs.Common.{◌≡◌, ◌+◌, ◌-◌, length, true, subst}
use Rattle.published.specs.Plain.{Shown}
use Rattle.published.proofs.Counted.{counted_shown, shown_in_order}
use Rattle.published.proofs.plain.Plain.publish.Goals as goal

pub invariant_of-self-2 : goal.invariant_of-self-2
invariant_of-self-2 g c =
    let mark = c.upto-self-inside.ensures in
    counted_shown c.self.inside.preserve c.self.inside.upto c.self.inside.more c.self.inside.appended.gnos c.self.inside.waiting.items c.clear.new.self.items _ _
    c.self.invariant c.clear.ensures.items c.count-count.ensures mark.mark mark.within

pub returns-clause-in_order : goal.returns-clause-in_order
returns-clause-in_order g c =
    subst (λ (s : Shown _). s.preserve ≡ true → (c.upto-self-inside.result ≡ s.upto + length s.waiting) × (c.count-count.result - c.upto-self-inside.result ≡ 0)) c.self.view_is
    (shown_in_order c.self.inside.preserve c.self.inside.upto c.self.inside.more c.self.inside.appended.gnos c.self.inside.waiting.items _ _
    c.self.invariant c.count-count.ensures c.upto-self-inside.ensures.mark)
