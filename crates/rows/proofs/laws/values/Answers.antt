use Rattle.rows.proofs.Marks.{free_by_rows}
use Rattle.rows.proofs.Effect.{values_stay_apart}
use Rattle.rows.proofs.Holders.{holder_has_it, holders_are_same, free_by_holder}
use Rattle.rows.proofs.laws.values.Goals as goal

pub returns-clause-apart : goal.returns-clause-apart
returns-clause-apart c = values_stay_apart

pub returns-clause-holder : goal.returns-clause-holder
returns-clause-holder c = holder_has_it

pub returns-clause-same : goal.returns-clause-same
returns-clause-same c = holders_are_same

pub returns-clause-free : goal.returns-clause-free
returns-clause-free c = free_by_holder

pub returns-clause-free_by_rows : goal.returns-clause-free_by_rows
returns-clause-free_by_rows c = free_by_rows
