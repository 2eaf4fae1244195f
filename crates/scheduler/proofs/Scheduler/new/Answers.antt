use Rattle.scheduler.proofs.Marks.{new_ring, new_marks}
use Rattle.scheduler.proofs.Scheduler.new.Goals as goal

pub invariant_of-result : goal.invariant_of-result
invariant_of-result c = new_ring c.none_marked.result c.none_marked.ensures

pub returns : goal.returns
returns c = new_marks c.none_marked.result c.none_marked.ensures
