use Rattle.overlay.proofs.ChildCounts.{tells_by_count}
use Rattle.overlay.proofs.ChildRows.{tells_children}
use Rattle.overlay.proofs.laws.sees.Goals as goal

pub returns-clause-children : goal.returns-clause-children
returns-clause-children c = tells_children

pub returns-clause-by_count : goal.returns-clause-by_count
returns-clause-by_count c = tells_by_count
