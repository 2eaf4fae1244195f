use Rattle.row_index.proofs.Counts.{none_counted, counts_follow, children_move, old_are_counted, children_are_rows}
use Rattle.row_index.proofs.laws.counts.Goals as goal

pub returns-clause-none : goal.returns-clause-none
returns-clause-none c = none_counted

pub returns-clause-follow : goal.returns-clause-follow
returns-clause-follow c = counts_follow

pub returns-clause-old : goal.returns-clause-old
returns-clause-old c = old_are_counted

pub returns-clause-few : goal.returns-clause-few
returns-clause-few c = children_are_rows

pub returns-clause-moves : goal.returns-clause-moves
returns-clause-moves c = children_move
