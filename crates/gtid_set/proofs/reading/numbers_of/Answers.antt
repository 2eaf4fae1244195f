use Rattle.std.specs.List.{slice_split}
use Rattle.gtid_set.specs.Reading.{is_colon}
use Rattle.gtid_set.proofs.Grammar.{each_interval}
use Rattle.gtid_set.proofs.reading.numbers_of.Goals as goal

pub settle-requires : goal.settle-requires
settle-requires c = each_interval (slice_split is_colon c.args.list.now) c.in_ok-intervals.intervals.items c.in_ok-intervals.ensures
