use Rattle.row_map.proofs.Maps.{got_last, gave_last}
use Rattle.row_map.proofs.RowMap.pop.Goals as goal

pub returns-clause-stood : goal.returns-clause-stood
returns-clause-stood g c = rw (← c.self.view_is) (got_last c.self.inside.entries c.pop.new.self c.pop.result c.pop.ensures.entries c.pop.ensures.updates)

pub returns-clause-left : goal.returns-clause-left
returns-clause-left g c = rw (← c.self.view_is) (gave_last c.self.inside.entries c.pop.new.self c.pop.result c.pop.ensures.updates)
