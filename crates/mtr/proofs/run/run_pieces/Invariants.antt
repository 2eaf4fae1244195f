use Rattle.std.proofs.Common.{◌≡◌, ◌++◌, List}
use Rattle.world.specs.declared.events.Event.{Event}
use Rattle.world.specs.State.{IsWorld}
use Rattle.world.specs.Seen.{seen}
use Rattle.std.specs.Vec.Iter.{into_iter_items}
use Rattle.mtr.specs.Events.{events_in}
use Rattle.mtr.specs.Pair.{GoesOn}
use Rattle.mtr.proofs.run.run_pieces.Given as goal

-- the events so far were run, and are those before the rest
abbrev pub invariant-loop-piece : goal.invariant-loop-piece
invariant-loop-piece g l = record {
  world : IsWorld g.R.RowStore.contents (seen l.world);
  done : (events : List Event) × (events ++ events_in (into_iter_items l.piece-iterator) ≡ events_in l.fn.pieces.items)
      × GoesOn g.R.RowStore.contents (seen l.fn.world) (seen l.world) events (g.W.Write.contents l.fn.output) (g.W.Write.contents l.output);
}
