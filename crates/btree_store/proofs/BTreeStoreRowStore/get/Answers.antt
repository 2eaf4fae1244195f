use Rattle.std.proofs.Common.{◌∙◌, sym, ap, ℤ, List, Some}
use Rattle.std.specs.FinMap.{get}
use Rattle.rows.specs.Database.{Database}
use Rattle.btree_store.proofs.Maps.{get_row}
use Rattle.btree_store.proofs.BTreeStoreRowStore.get.Goals as goal

pub returns : goal.returns
returns c =
    ap (λ (columns : List ℤ). Some columns) c.row.ensures ∙ c.in_ok-there.ensures.value ∙ sym (get_row c.self.inside.rows c.args.id) ∙ ap (λ (db : Database). get db c.args.id) c.self.view_is

pub returns-in_err-there : goal.returns-in_err-there
returns-in_err-there c =
    rw c.from_residual.ensures (c.in_err-there.ensures.value ∙ sym (get_row c.self.inside.rows c.args.id) ∙ ap (λ (db : Database). get db c.args.id) c.self.view_is)
