use Rattle.std.proofs.Common.{rules, w64, FitsSigned, to_z-of_z}
use Rattle.store_trait.proofs.Walks.{first_behind}
use Rattle.store_trait.proofs.walk.next_row.Goals as goal

pub returns-in-None : goal.returns-in-None
returns-in-None g c =
    let fits : FitsSigned w64 c.in-Some.last.key = search rules in
    rw c.in-Some.is (first_behind (g.S.RowStore.contents c.args.store.now) c.args.tables.now c.in-Some.last c.first_row-in-None.result
    (rw (to_z-of_z fits) at c.in-None.ensures)
    (rw c.from.ensures at c.first_row-in-None.ensures))
