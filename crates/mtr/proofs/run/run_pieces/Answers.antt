use Rattle.std.proofs.Common.{◌≡◌, ◌∙◌, ap, ◌++◌, [], Some}
use Rattle.world.specs.Seen.{seen}
use Rattle.mtr.proofs.Runs.{goes_nowhere, goes_further, behind_piece, printed_from}
use Rattle.mtr.specs.Events.{events_in}
use Rattle.std.specs.Vec.Iter.{into_iter_items}
use Rattle.mtr.proofs.run.run_pieces.Goals as goal

pub loop-piece-init : goal.loop-piece-init
loop-piece-init g c =
    let all : into_iter_items c.into_iter-piece-iterator.result ≡ c.args.pieces.items = c.into_iter-piece-iterator.ensures.into_iter_gives.0 in
    record {
      world = c.requires;
      done = ([], ap events_in all, goes_nowhere g.R.RowStore.contents (seen c.args.world.now) (g.W.Write.contents c.args.output.now));
    }

pub loop-piece-preserved : goal.loop-piece-preserved
loop-piece-preserved g c =
    let contents = g.R.RowStore.contents in
    let done = c.loop-piece.invariant.done in
    let piece = c.in-Some.piece in
    let rest = into_iter_items c.next.new.self in
    record {
      world = c.in_ok-run.ensures.world;
      done = (
        done.0 ++ piece,
        behind_piece done.0 (events_in (into_iter_items c.loop-piece.piece-iterator)) piece (events_in rest) (events_in c.args.pieces.items) done.1
            (ap events_in c.in-Some.ensures.steps.0),
        goes_further contents (seen c.args.world.now) (seen c.loop-piece.world) (seen c.run.new.world) done.0 piece
            (g.W.Write.contents c.args.output.now) (g.W.Write.contents c.loop-piece.output) (g.W.Write.contents c.print.new.output) done.2
            (printed_from contents (seen c.loop-piece.world) (seen c.run.new.world) piece c.clear.new.self.items c.run.new.text.items _ _ c.clear.ensures.items c.in_ok-run.ensures.goes_on
            (rw c.deref.ensures.value at c.in_ok-print.ensures.lines)),
      );
    }
