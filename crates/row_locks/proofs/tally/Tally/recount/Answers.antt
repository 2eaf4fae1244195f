use Rattle.std.proofs.Common.{◌∙◌, ◌+◌, ap}
use Rattle.row_locks.specs.declared.Mode.TheVariants.{Exclusive}
use Rattle.row_locks.specs.Mode.{weight}
use Rattle.row_locks.proofs.Counts.{count-set, count-removed, had_count, held-set, held-removed, is_nobody, not_nobody}
use Rattle.row_locks.proofs.tally.Tally.recount.Goals as goal

pub set-requires : goal.set-requires
set-requires c = rw c.self.view_is (λ none. c.requires.room (had_count c.args.self.now.map c.args.row c.args.was (c.requires.counted Exclusive) none))

pub invariant_of-self : goal.invariant_of-self
invariant_of-self c = rw c.remove.ensures.map (held-removed c.self.inside.rows.map c.args.row c.self.invariant)

pub invariant_of-self-else-eq : goal.invariant_of-self-else-eq
invariant_of-self-else-eq c =
    rw c.set.ensures.map (held-set c.self.inside.rows.map c.args.row c.changed-count.result (not_nobody c.changed-count.result c.eq.result c.eq.ensures c.if-eq.false) c.self.invariant)

pub returns-then-eq-clause-counts : goal.returns-then-eq-clause-counts
returns-then-eq-clause-counts c q mode =
    rw (c.remove.ensures.map, c.self.view_is) (count-removed c.args.self.now.map c.args.row c.changed-count.result q mode (weight c.args.was mode) (weight c.args.now mode)
    (is_nobody c.changed-count.result c.eq.result c.eq.ensures c.if-eq.true) (c.changed-count.ensures mode ∙ ap (λ n. n + weight c.args.now mode) (c.count.ensures mode)))

pub returns-else-eq-clause-counts : goal.returns-else-eq-clause-counts
returns-else-eq-clause-counts c q mode =
    rw (c.set.ensures.map, c.self.view_is) (count-set c.args.self.now.map c.args.row c.changed-count.result q mode (weight c.args.was mode) (weight c.args.now mode)
    (c.changed-count.ensures mode ∙ ap (λ n. n + weight c.args.now mode) (c.count.ensures mode)))
