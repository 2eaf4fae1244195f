use Rattle.overlay.proofs.Order.{in_order-inserted}
use Rattle.overlay.proofs.room.set_row.Goals as goal

pub returns : goal.returns
returns c = in_order-inserted c.args.rows.now c.insert.new.self c.insert.result c.args.row c.args.left (c.insert.ensures.succeeds c.requires) c.insert.ensures.updates
