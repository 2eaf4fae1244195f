use Rattle.std.proofs.Common.{sym, subst, ◌+◌, ◌≤◌, List, []}
use Rattle.schema.specs.declared.RowId.{RowId}
use Rattle.row_index.specs.Counts.{count_at, times_in, parents_left, Recounts}
use Rattle.row_index.proofs.Recounts.{then_recounts, left_fits}
use Rattle.row_index.proofs.children.Children.put.Goals as goal

pub take_up-requires-clause-fits : goal.take_up-requires-clause-fits
take_up-requires-clause-fits c =
    left_fits c.args.old.now (parents_left c.args.schema.now c.child_entries.result.now) c.args.self.now.map c.give_up.new.self.map c.args.rows c.give_up.ensures.counts
    (subst (λ (l : List RowId). (row : RowId) → count_at c.args.self.now.map row + times_in l row ≤ c.args.rows + times_in c.args.old.now row) (sym c.child_entries.ensures.left) c.requires.fits)

pub returns : goal.returns
returns c =
    then_recounts c.args.old.now (parents_left c.args.schema.now c.args.batch.now) c.args.self.now.map c.give_up.new.self.map c.take_up.new.self.map c.give_up.ensures.counts
    (subst (λ (l : List RowId). Recounts [] l c.give_up.new.self.map c.take_up.new.self.map) c.child_entries.ensures.left c.take_up.ensures)
