use Rattle.schema.proofs.RowMaps.{rows-removed}
use Rattle.row_map.proofs.RowMap.remove.Goals as goal

pub returns-clause-map : goal.returns-clause-map
returns-clause-map g c = rw (← c.self.view_is) (rows-removed c.self.inside.entries.entries c.swap_remove.new.self.entries c.args.row c.swap_remove.ensures.updates.0)
