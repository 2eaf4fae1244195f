use Rattle.std.proofs.Common.{arith, ◌+◌}
use Rattle.row_index.proofs.Recounts.{count-set, one_got, set_is_counted}
use Rattle.row_index.proofs.children.Children.take_up_one.Goals as goal

pub invariant_of-self : goal.invariant_of-self
invariant_of-self c =
    rw c.set.ensures.map (set_is_counted c.self.inside.counts.map c.args.row (c.count-count.result + 1) (λ zero. absurd (omega (arith, zero))) c.self.invariant)

pub returns-clause-counts : goal.returns-clause-counts
returns-clause-counts c =
    let count = c.count-count.result + 1 in
    rw (c.set.ensures.map, c.self.view_is) (one_got c.args.self.now.map _ c.args.row count (λ q. count-set c.args.self.now.map c.args.row q count) (omega (arith, c.count-count.ensures)))
