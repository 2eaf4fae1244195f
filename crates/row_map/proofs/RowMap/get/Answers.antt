use Rattle.std.proofs.Common.{◌∙◌, sym}
use Rattle.schema.proofs.RowMaps.{get_row}
use Rattle.row_map.proofs.Maps.{no_row}
use Rattle.row_map.proofs.RowMap.get.Goals as goal

pub returns-then-is_empty : goal.returns-then-is_empty
returns-then-is_empty g c = rw (← c.self.view_is) (no_row c.self.inside.entries.entries c.args.row (c.is_empty.ensures.0 c.if-is_empty.true))

pub returns : goal.returns
returns g c = rw (← c.self.view_is) (c.copied.ensures ∙ c.get.ensures.value ∙ sym (get_row c.self.inside.entries.entries c.args.row))
