use Rattle.source_shared.proofs.Calling.{AreCalled}
use Rattle.source_shared.proofs.engine.Engine.call_due.Given as goal

abbrev pub invariant-loop-place : goal.invariant-loop-place
invariant-loop-place g l = AreCalled l.initial.self l.initial.lead l.self l.place l.lead l.called.all l.left
