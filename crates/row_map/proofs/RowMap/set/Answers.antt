use Rattle.row_map.proofs.Maps.{inserted}
use Rattle.row_map.proofs.RowMap.set.Goals as goal

pub returns-clause-map : goal.returns-clause-map
returns-clause-map g c =
    let room = rw (← c.self.view_is) at c.requires in
    rw (← c.self.view_is) (inserted c.self.inside.entries c.insert.new.self c.insert.result c.args.row c.args.value room c.insert.ensures.succeeds c.insert.ensures.absent c.insert.ensures.updates)
