use Rattle.std.proofs.Common.{arith}
use Rattle.gtid_set.proofs.Joining.{sorted_before, one_joined}
use Rattle.gtid_set.proofs.intervals.join.Goals as goal

pub join_next-kept-requires-clause-sorted : goal.join_next-kept-requires-clause-sorted
join_next-kept-requires-clause-sorted c =
    sorted_before c.args.intervals.now c.loop-i.intervals c.loop-i.kept c.loop-i.i (record { first = 0; last = 0 }) c.loop-i.invariant (omega arith)

pub loop-i-preserved : goal.loop-i-preserved
loop-i-preserved c =
    one_joined c.args.intervals.now c.loop-i.intervals c.join_next-kept.new.intervals c.loop-i.kept c.join_next-kept.result c.loop-i.i (record { first = 0; last = 0 })
    c.requires.sorted c.loop-i.invariant (omega arith) (record {
      joins = c.join_next-kept.ensures.joins;
      rest = c.join_next-kept.ensures.rest;
      few = c.join_next-kept.ensures.within;
      long =
          c.join_next-kept.auto.intervals;
    })
