use Rattle.std.proofs.Common.{take}
use Rattle.std.specs.Fmt.{HasWritten, IsPlainFormatter}
use Rattle.gtid_set.specs.Text.{intervals_text}
use Rattle.gtid_set.proofs.set.GtidSetDisplay.fmt.Given as goal

abbrev pub invariant-loop-interval : goal.invariant-loop-interval
invariant-loop-interval g l =
    IsPlainFormatter l.initial.f → HasWritten g.W.Write.write_str_gives l.initial.f (intervals_text (take l.interval-index l.interval-items)) l.f
