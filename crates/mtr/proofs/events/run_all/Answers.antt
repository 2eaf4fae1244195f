use Rattle.std.proofs.Common.{refl, ◌++◌, ◌∷◌, ◌+◌, [], Some, drop, ap, arith}
use Rattle.std.proofs.lemmas.List.{drop_all}
use Rattle.std.proofs.lemmas.Result.{on_ok_weaker}
use Rattle.world.specs.Seen.{seen}
use Rattle.script_text.specs.Kept.{event_of}
use Rattle.mtr.specs.Events.{events_of}
use Rattle.mtr.proofs.Runs.{goes_nowhere, goes_over, runs_one}
use Rattle.mtr.proofs.EventLists.{next_whole}
use Rattle.mtr.proofs.events.run_all.Goals as goal

pub loop-one-init : goal.loop-one-init
loop-one-init g c = record {
  world = c.requires.world;
  left = c.requires.whole;
  done = ([], refl, goes_nowhere g.R.RowStore.contents (seen c.args.world.now) (Some c.args.text.now.items));
}

pub loop-one-preserved : goal.loop-one-preserved
loop-one-preserved g c =
    let kept = c.args.kept.now in
    let i = c.loop-one.one-index in
    let columns = c.loop-one.columns.now in
    let own = c.split_at.result.0.now in
    let rest = c.split_at.result.1.now in
    record {
      world = c.in_ok-run_kept.ensures.world;
      left = next_whole kept i c.width.result _ columns own rest c.loop-one-test.true c.width.ensures c.split_at.ensures.front c.split_at.ensures.back c.loop-one.invariant.left;
      done =
          runs_one g.R.RowStore.contents (seen c.args.world.now) (seen c.loop-one.world) (seen c.run_kept.new.world) kept i c.width.result _ columns own rest (events_of kept c.args.columns.now)
          (Some c.args.text.now.items) (Some c.loop-one.text.items) (Some c.run_kept.new.text.items) c.loop-one-test.true c.width.ensures c.split_at.ensures.front c.split_at.ensures.back
          c.loop-one.invariant.done c.in_ok-run_kept.ensures.goes_on;
    }

pub returns-clause-goes_on : goal.returns-clause-goes_on
returns-clause-goes_on g c =
    let done = c.loop-one.invariant.done in
    goes_over g.R.RowStore.contents (seen c.args.world.now) (seen c.loop-one.world) done.0 (events_of (drop c.loop-one.one-index c.args.kept.now) c.loop-one.columns.now)
    (events_of c.args.kept.now c.args.columns.now) (Some c.args.text.now.items) (Some c.loop-one.text.items) done.1
    (ap (λ ks. events_of ks c.loop-one.columns.now) (drop_all c.loop-one.one-index c.args.kept.now c.loop-one-test.false)) done.2
