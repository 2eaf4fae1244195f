use Rattle.std.proofs.Common.{ap, arith}
use Rattle.gtid_set.specs.declared.intervals.Interval.{Interval}
use Rattle.gtid_set.proofs.Places.{same_read, lowered, lacks_lower, lacks_higher, ends_at}
use Rattle.gtid_set.proofs.intervals.widen.Goals as goal

pub returns-then-number-found-clause-value : goal.returns-then-number-found-clause-value
returns-then-number-found-clause-value c =
    lacks_lower c.args.intervals.now.items c.args.at c.args.number c.index-found.result.now c.requires.are c.requires.place (omega arith) c.index-found.ensures c.if-number-found.true

pub returns-then-number-found-clause-puts : goal.returns-then-number-found-clause-puts
returns-then-number-found-clause-puts c =
    let is = c.args.intervals.now.items in
    let at = c.args.at in
    let x = c.index_mut.result.now in
    let same = ap (λ (i : Interval). i.first) (same_read is at x c.index-found.result.now (omega arith) c.index_mut.ensures.value c.index-found.ensures) in
    let near = ap (λ (i : Interval). i.first) c.index_mut.ensures.value in
    lowered is at c.args.number x c.requires.are c.requires.place (omega arith) (omega arith) c.index_mut.ensures.value (omega (arith, same, near, c.requires.near x))

pub returns-else-number-found-2-clause-value : goal.returns-else-number-found-2-clause-value
returns-else-number-found-2-clause-value c =
    let ends = ends_at c.args.intervals.now.items c.args.at _ c.index-found.result.now c.requires.place (omega arith) c.index-found.ensures in
    lacks_higher c.args.intervals.now.items c.args.at c.args.number c.index-found.result.now c.requires.are c.requires.place (omega arith) c.index-found.ensures (omega (arith, ends))
