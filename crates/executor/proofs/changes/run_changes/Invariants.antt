use Rattle.rows.specs.Database.{Database}
use Rattle.executor.specs.Shown.{IsShown}
use Rattle.executor.proofs.Running.{HasRun}
use Rattle.executor.proofs.changes.run_changes.Given as goal

abbrev pub invariant-loop-change : goal.invariant-loop-change
invariant-loop-change g l =
    (db : Database) → IsShown l.schema l.changes (g.S.RowStore.contents l.store) l.holders db
    → HasRun l.schema l.changes db l.change-index l.pending
