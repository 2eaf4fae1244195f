use Rattle.std.proofs.Common.{take}
use Rattle.replica_answers.specs.Followed.{HasMoved}
use Rattle.replica_answers.proofs.following.feed_to_fault.Given as goal

-- so many bytes were read
abbrev pub invariant-loop-at : goal.invariant-loop-at
invariant-loop-at g l = HasMoved l.fn.wire (take l.at l.bytes) l.wire
