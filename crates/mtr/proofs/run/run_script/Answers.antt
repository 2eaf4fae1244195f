use Rattle.std.proofs.Common.{List, ℤ, subst}
use Rattle.schema.specs.declared.RowId.{RowId}
use Rattle.mtr.specs.Pair.{BeginsWith}
use Rattle.std.proofs.lemmas.Result.{on_ok_weaker}
use Rattle.world.specs.Seen.{seen}
use Rattle.mtr.specs.Script.{said}
use Rattle.mtr.proofs.Runs.{prints, cut_off}
use Rattle.mtr.proofs.run.run_script.Goals as goal

pub returns-clause-prints : goal.returns-clause-prints
returns-clause-prints g c =
    let begins : List (RowId × List ℤ) → Type 0 = λ rows. BeginsWith g.S.RowStore.contents (g.T.Tracker.kind c.args.tracker) c.args.sides.workers c.args.sides.preserve c.args.script.tables.items rows
    (seen c.in_ok-world.world) in
    on_ok_weaker c.run_pieces-done.result
    (prints g.S.RowStore.contents (said c.args.script) (g.T.Tracker.kind c.args.tracker) c.args.sides.workers c.args.sides.preserve (seen c.in_ok-world.world) (seen c.run_pieces-done.new.world)
    (g.W.Write.contents c.args.output.now) (g.W.Write.contents c.run_pieces-done.new.output) (subst begins c.deref.ensures.value c.in_ok-world.ensures))
    (rw c.into_pieces.ensures at c.run_pieces-done.ensures.goes_on)

pub returns-clause-refused : goal.returns-clause-refused
returns-clause-refused g c = cut_off c.run_pieces-done.result (g.W.Write.contents c.args.output.now) (g.W.Write.contents c.run_pieces-done.new.output) c.run_pieces-done.ensures.stop
