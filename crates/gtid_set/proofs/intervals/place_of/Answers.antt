use Rattle.std.proofs.Common.{ltb, rules}
use Rattle.std.proofs.lemmas.List.Sorted.{IsPartitionedBy-ltb, IsPartitionPoint-from_clause}
use Rattle.gtid_set.proofs.Rising.{lasts_rise}
use Rattle.gtid_set.proofs.Places.{front_from, back_from}
use Rattle.gtid_set.proofs.intervals.place_of.Goals as goal

pub returns : goal.returns
returns c =
    let is = c.args.intervals.now in
    let p = IsPartitionPoint-from_clause (λ i. ltb i.last c.args.low) is c.partition_point.result c.partition_point.ensures.partitioned
    (IsPartitionedBy-ltb (λ i. i.last) is c.args.low (lasts_rise 1 is c.requires)) (λ a r q k. search rules) in
    record {
      within = c.partition_point.ensures.bound;
      front = front_from c.args.low c.partition_point.result is p.0 c.partition_point.ensures.bound;
      back = back_from c.args.low c.partition_point.result is p.1;
    }
