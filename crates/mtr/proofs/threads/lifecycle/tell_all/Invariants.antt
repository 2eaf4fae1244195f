use Rattle.std.specs.List.{All}
use Rattle.mtr.specs.Reading.{AreTold}
use Rattle.mtr.proofs.threads.lifecycle.tell_all.Given as goal

-- each list so far is of answers of what was published
abbrev pub invariant-loop-reader : goal.invariant-loop-reader
invariant-loop-reader g l =
    (goal.iterator-loop-reader g).can_next l.reader-iterator ×
    (goal.iterator-loop-reader g).is_finite l.reader-iterator ×
    All (λ v. AreTold g.K.Naming.preserve l.publisher.published v.items) l.readings.items
