use Rattle.rows.proofs.Apply.{applies_by_kind, applied_from, applies_from, has_parent_where}
use Rattle.rows.proofs.laws.one_change.Goals as goal

pub returns-clause-by_kind : goal.returns-clause-by_kind
returns-clause-by_kind c = applies_by_kind

pub returns-clause-leaves : goal.returns-clause-leaves
returns-clause-leaves c = applied_from

pub returns-clause-has_parent : goal.returns-clause-has_parent
returns-clause-has_parent c = has_parent_where

pub returns-clause-applies : goal.returns-clause-applies
returns-clause-applies c = applies_from
