use Rattle.vector_store.proofs.Finding.{inner_order, moved_found, moved_absent}
use Rattle.vector_store.proofs.search.place_near_end.Goals as goal

pub place_of-requires : goal.place_of-requires
place_of-requires c =
    inner_order c.args.rows.now c.args.id c.window_near_end-low.result.0 c.window_near_end-low.result.1 c.window_near_end-low.ensures c.requires

pub returns-in-Ok : goal.returns-in-Ok
returns-in-Ok c =
    moved_found c.args.rows.now c.args.id c.window_near_end-low.result.0 c.window_near_end-low.result.1 c.window_near_end-low.ensures c.in-Ok.place c.in-Ok.ensures

pub returns-in-Err : goal.returns-in-Err
returns-in-Err c =
    moved_absent c.args.rows.now c.args.id c.window_near_end-low.result.0 c.window_near_end-low.result.1 c.window_near_end-low.ensures c.in-Err.place c.in-Err.ensures
