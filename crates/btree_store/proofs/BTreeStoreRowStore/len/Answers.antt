use Rattle.std.proofs.Common.{◌∙◌, sym, ap}
use Rattle.std.specs.FinMap.{len}
use Rattle.rows.specs.Database.{Database}
use Rattle.btree_store.proofs.Maps.{len-contents}
use Rattle.btree_store.proofs.BTreeStoreRowStore.len.Goals as goal

pub returns : goal.returns
returns c =
    c.len.ensures.len ∙ sym (len-contents c.self.inside.rows c.len.ensures.ordered) ∙ ap (λ (db : Database). len db) c.self.view_is
