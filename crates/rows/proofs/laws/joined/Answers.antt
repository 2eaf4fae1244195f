use Rattle.rows.proofs.Effect.{writes_joined, effect_joined, steps_joined, kin_joined, marks_joined, row_after_joined}
use Rattle.rows.proofs.laws.joined.Goals as goal

pub returns-clause-writes : goal.returns-clause-writes
returns-clause-writes c = writes_joined

pub returns-clause-effect : goal.returns-clause-effect
returns-clause-effect c = effect_joined

pub returns-clause-steps : goal.returns-clause-steps
returns-clause-steps c = steps_joined

pub returns-clause-kin : goal.returns-clause-kin
returns-clause-kin c = kin_joined

pub returns-clause-marks : goal.returns-clause-marks
returns-clause-marks c = marks_joined

pub returns-clause-row : goal.returns-clause-row
returns-clause-row c = row_after_joined
