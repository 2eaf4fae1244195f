use Rattle.std.proofs.Common.{◌≡◌, length}
use Rattle.std.specs.Vec.Iter.{into_iter_items}
use Rattle.source_shared.specs.Engine.{ArePlaced, laid}
use Rattle.source_shared.proofs.leading.place_all.Given as goal

abbrev pub invariant-loop-receipt : goal.invariant-loop-receipt
invariant-loop-receipt g l =
    (goal.iterator-loop-receipt g).can_next l.receipt-iterator ×
    (goal.iterator-loop-receipt g).is_finite l.receipt-iterator ×
    ArePlaced l.initial.history 1 l.places.items ×
    (length l.places.items ≡ length l.initial.places.items) ×
    (laid (into_iter_items l.receipt-iterator) l.places.items ≡ laid l.fn.given.items l.initial.places.items)
