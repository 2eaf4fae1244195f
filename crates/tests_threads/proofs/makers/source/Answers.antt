use Rattle.source_core.proofs.New.{new_is_new}
use Rattle.tests_threads.proofs.makers.source.Goals as goal

pub returns : goal.returns
returns c = new_is_new _ _ _ _ _ c.in_ok-core.ensures.new
