use Rattle.rows.proofs.Given.{looks_only_at_given, one_outcome, given_parents_are_kin, given_marks_are_marks}
use Rattle.rows.proofs.laws.given.Goals as goal

pub returns-clause-looks_only : goal.returns-clause-looks_only
returns-clause-looks_only c = looks_only_at_given

pub returns-clause-one_outcome : goal.returns-clause-one_outcome
returns-clause-one_outcome c = one_outcome

pub returns-clause-parents : goal.returns-clause-parents
returns-clause-parents c = given_parents_are_kin

pub returns-clause-marks : goal.returns-clause-marks
returns-clause-marks c = given_marks_are_marks
