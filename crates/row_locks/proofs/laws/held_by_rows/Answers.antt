use Rattle.row_locks.proofs.Holders.{held_by_rows, holds_more_rows, holds_more_marks}
use Rattle.row_locks.proofs.laws.held_by_rows.Goals as goal

pub returns-clause-rows : goal.returns-clause-rows
returns-clause-rows c = held_by_rows

pub returns-clause-more : goal.returns-clause-more
returns-clause-more c = holds_more_rows

pub returns-clause-marks : goal.returns-clause-marks
returns-clause-marks c = holds_more_marks
