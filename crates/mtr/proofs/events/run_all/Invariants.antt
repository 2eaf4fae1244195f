use Rattle.std.proofs.Common.{drop, Some}
use Rattle.world.specs.State.{IsWorld}
use Rattle.world.specs.Seen.{seen}
use Rattle.mtr.specs.Events.{AreWhole, events_of}
use Rattle.mtr.proofs.Runs.{HasRunSome}
use Rattle.mtr.proofs.events.run_all.Given as goal

abbrev pub invariant-loop-one : goal.invariant-loop-one
invariant-loop-one g l = record {
  world : IsWorld g.R.RowStore.contents (seen l.world);
  left : AreWhole (drop l.one-index l.kept) l.columns;
  done : HasRunSome g.R.RowStore.contents (seen l.fn.world) (seen l.world) (drop l.one-index l.kept) l.columns (events_of l.kept l.initial.columns) (Some l.fn.text.items) (Some l.text.items);
}
