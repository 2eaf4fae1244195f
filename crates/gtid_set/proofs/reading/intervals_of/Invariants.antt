use Rattle.std.proofs.Common.{◌≡◌, length, drop}
use Rattle.std.specs.List.{slice_split}
use Rattle.gtid_set.specs.Reading.{is_colon, intervals_at}
use Rattle.gtid_set.proofs.Listing.{with_front}
use Rattle.gtid_set.proofs.reading.intervals_of.Given as goal

abbrev pub invariant-loop-text : goal.invariant-loop-text
invariant-loop-text l = with_front l.intervals.items (intervals_at (drop (length l.yielded) (slice_split is_colon l.list))) ≡ intervals_at (slice_split is_colon l.list)
