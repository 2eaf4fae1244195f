use Rattle.std.proofs.Common.{◌∙◌, sym, subst}
use Rattle.std.specs.List.{All}
use Rattle.source_shared.specs.Engine.{IsCommitted}
use Rattle.mtr.proofs.threads.lifecycle.end_source.Goals as goal

pub returns-clause-receipts : goal.returns-clause-receipts
returns-clause-receipts g c = subst (All (IsCommitted c.end-core.result)) (c.deref.ensures.value ∙ sym c.in_ok-given_all.ensures) c.end-core.ensures.receipts
