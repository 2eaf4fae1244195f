use Rattle.source_core.proofs.New.{new_by}
use Rattle.promotion.proofs.promote.Goals as goal

pub returns-clause-new : goal.returns-clause-new
returns-clause-new g c = new_by _ _ _ _ _ _ c.opened-source.ensures.new c.in-Ok.ensures.tables
