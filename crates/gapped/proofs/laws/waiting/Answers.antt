use Rattle.gapped.proofs.Waiters.{eligible_waits, waiting_apart, waiting_looks_alike}
use Rattle.gapped.proofs.Committing.{commit_leaves}
use Rattle.gapped.proofs.laws.waiting.Goals as goal

pub returns-clause-eligible : goal.returns-clause-eligible
returns-clause-eligible c = eligible_waits

pub returns-clause-apart : goal.returns-clause-apart
returns-clause-apart c = waiting_apart

pub returns-clause-alike : goal.returns-clause-alike
returns-clause-alike c = waiting_looks_alike

pub returns-clause-commit : goal.returns-clause-commit
returns-clause-commit c = commit_leaves
