use Rattle.row_locks.proofs.Tied.{tied-none}
use Rattle.row_locks.proofs.sessions.Sessions.new.Goals as goal

pub invariant_of-result : goal.invariant_of-result
invariant_of-result c = rw (c.new.ensures.items, c.new-2.ensures) tied-none
