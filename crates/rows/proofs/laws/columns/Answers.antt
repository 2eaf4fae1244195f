use Rattle.std.proofs.Common.{arith}
use Rattle.rows.proofs.Assigned.{assigned_is_there, assigned_length, assigned_keeps, assigned_takes}
use Rattle.rows.proofs.laws.columns.Goals as goal

pub returns-clause-there : goal.returns-clause-there
returns-clause-there c = λ named columns. assigned_is_there named.mask named.values columns

pub returns-clause-width : goal.returns-clause-width
returns-clause-width c = λ named columns new. assigned_length named.mask named.values columns new

pub returns-clause-others : goal.returns-clause-others
returns-clause-others c = λ named columns new column. assigned_keeps column named.mask named.values columns new

pub returns-clause-named : goal.returns-clause-named
returns-clause-named c = λ named columns new column each. assigned_takes column named.mask named.values columns new (omega arith)
