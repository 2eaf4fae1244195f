use Rattle.rows.proofs.Marks.{marks_are_few, marks_of_unique}
use Rattle.rows.proofs.laws.marks.Goals as goal

pub returns-clause-few : goal.returns-clause-few
returns-clause-few c = marks_are_few

pub returns-clause-of_unique : goal.returns-clause-of_unique
returns-clause-of_unique c = marks_of_unique
