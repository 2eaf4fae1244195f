use Rattle.world.specs.State.{IsWorld}
use Rattle.world.specs.Seen.{seen}
use Rattle.tests_pair.proofs.tests.again.answer_as_told.Given as goal

abbrev pub invariant-loop-event : goal.invariant-loop-event
invariant-loop-event g l = IsWorld g.R.RowStore.contents (seen l.world)
