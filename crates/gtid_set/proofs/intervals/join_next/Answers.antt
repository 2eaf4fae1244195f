use Rattle.std.proofs.Common.{arith}
use Rattle.gtid_set.proofs.Joining.{last_taken, pushed, extended, end_none, end_last}
use Rattle.gtid_set.proofs.intervals.join_next.Goals as goal
use Rattle.gtid_set.proofs.intervals.join_next.Goals.{else-kept-gt0-via-then-kept-gt0+else-next-intervals, else-kept-gt0-via-else-kept-gt0}

pub overflow_add-intervals : goal.overflow_add-intervals
overflow_add-intervals c = omega (arith, last_taken c.args.intervals.now c.args.kept (record { first = 0; last = 0 }) c.requires.are c.if-kept-gt0.true c.requires.within)

pub returns-then-next-intervals-clause-joins : goal.returns-then-next-intervals-clause-joins
returns-then-next-intervals-clause-joins c =
    extended c.args.intervals.now c.args.kept c.args.next (record { first = 0; last = 0 }) c.max.result c.if-kept-gt0.true c.requires.within c.requires.is c.requires.are c.requires.sorted
    c.if-next-intervals.true c.max.ensures

pub returns-else-kept-gt0-clause-joins : goal.returns-else-kept-gt0-clause-joins
returns-else-kept-gt0-clause-joins c =
    pushed c.args.intervals.now c.args.kept c.args.next c.requires.within c.requires.is c.requires.are c.requires.sorted
    (elim c.else-kept-gt0.branch [
      | else-kept-gt0-via-then-kept-gt0+else-next-intervals w ↦
          omega (arith, end_last c.args.intervals.now c.args.kept (record { first = 0; last = 0 }) w.if-kept-gt0.true c.requires.within)
      | else-kept-gt0-via-else-kept-gt0 w ↦ end_none c.args.intervals.now c.args.kept c.args.next.first w.if-kept-gt0.false c.requires.is.from_one
    ])
