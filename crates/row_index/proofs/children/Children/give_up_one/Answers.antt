use Rattle.std.proofs.Common.{arith, ◌-◌}
use Rattle.row_index.proofs.Recounts.{count-set, count-removed, one_lost, set_is_counted, removed_is_counted, has_entry}
use Rattle.row_index.proofs.children.Children.give_up_one.Goals as goal

pub replace-requires : goal.replace-requires
replace-requires c = rw c.self.view_is (has_entry c.args.self.now.map c.args.row c.requires)

pub invariant_of-self : goal.invariant_of-self
invariant_of-self c = rw c.remove.ensures.map (removed_is_counted c.self.inside.counts.map c.args.row c.self.invariant)

pub invariant_of-self-else-count-eq1 : goal.invariant_of-self-else-count-eq1
invariant_of-self-else-count-eq1 c =
    rw c.replace.ensures.map (set_is_counted c.self.inside.counts.map c.args.row (c.count-count.result - 1)
    (λ zero. c.if-count-eq1.false (omega (arith, zero, c.requires, c.count-count.ensures))) c.self.invariant)

pub returns-then-count-eq1-clause-counts : goal.returns-then-count-eq1-clause-counts
returns-then-count-eq1-clause-counts c =
    rw (c.remove.ensures.map, c.self.view_is) (one_lost c.args.self.now.map _ c.args.row 0 (count-removed c.args.self.now.map c.args.row) (omega (arith, c.count-count.ensures, c.if-count-eq1.true)))

pub returns-else-count-eq1-clause-counts : goal.returns-else-count-eq1-clause-counts
returns-else-count-eq1-clause-counts c =
    rw (c.replace.ensures.map, c.self.view_is) (one_lost c.args.self.now.map _ c.args.row (c.count-count.result - 1) (λ q. count-set c.args.self.now.map c.args.row q (c.count-count.result - 1))
    (omega (arith, c.requires, c.count-count.ensures)))
