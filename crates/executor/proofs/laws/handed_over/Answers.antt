use Rattle.executor.proofs.Handed.{input_is_rows, same_rows_in, holders_rise, holders_are_held, same_handed_over}
use Rattle.executor.proofs.laws.handed_over.Goals as goal

pub returns-clause-rows : goal.returns-clause-rows
returns-clause-rows c = input_is_rows

pub returns-clause-same_rows : goal.returns-clause-same_rows
returns-clause-same_rows c = same_rows_in

pub returns-clause-rising : goal.returns-clause-rising
returns-clause-rising c = holders_rise

pub returns-clause-holders : goal.returns-clause-holders
returns-clause-holders c = holders_are_held

pub returns-clause-same : goal.returns-clause-same
returns-clause-same c = same_handed_over
