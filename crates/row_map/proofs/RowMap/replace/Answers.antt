use Rattle.std.proofs.Common.{rules}
use Rattle.schema.proofs.RowMaps.{get_row, rows-set}
use Rattle.row_map.proofs.RowMap.replace.Goals as goal

pub unwrap-requires : goal.unwrap-requires
unwrap-requires g c =
    let some = rw (← c.self.view_is, get_row c.self.inside.entries.entries c.args.row, ← c.get_mut.ensures.value) at c.requires in
    search (rules, some)

pub returns-clause-map : goal.returns-clause-map
returns-clause-map g c =
    let some = rw (← c.self.view_is, get_row c.self.inside.entries.entries c.args.row) at c.requires in
    rw (← c.self.view_is) (rows-set c.self.inside.entries.entries (c.get_mut.follows.lender c.args.value).entries c.args.row c.args.value ((c.get_mut.follows.holds c.args.value).3 some).0)
