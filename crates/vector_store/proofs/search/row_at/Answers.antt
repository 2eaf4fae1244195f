use Rattle.vector_store.proofs.Finding.{found_at, absent_at}
use Rattle.vector_store.proofs.search.row_at.Goals as goal

pub returns-in-Ok : goal.returns-in-Ok
returns-in-Ok c = found_at c.args.rows.now c.args.id c.in-Ok.place c.index-rows-place.result c.in-Ok.ensures

pub returns-in-Err : goal.returns-in-Err
returns-in-Err c = absent_at c.args.rows.now c.args.id c.in-Err.field-0 c.in-Err.ensures
