use Rattle.rows.proofs.Effect.{changes_only_writes, changes_only_marks}
use Rattle.rows.proofs.Frame.{looks_only}
use Rattle.rows.proofs.laws.frame.Goals as goal

pub returns-clause-changes_only : goal.returns-clause-changes_only
returns-clause-changes_only c = changes_only_writes

pub returns-clause-only_marks : goal.returns-clause-only_marks
returns-clause-only_marks c = changes_only_marks

pub returns-clause-looks_only : goal.returns-clause-looks_only
returns-clause-looks_only c = looks_only
