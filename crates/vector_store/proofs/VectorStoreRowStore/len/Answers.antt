use Rattle.std.proofs.Common.{◌∙◌, sym, ap}
use Rattle.std.specs.FinMap.{len}
use Rattle.rows.specs.Database.{Database}
use Rattle.vector_store.proofs.Finding.{len-contents}
use Rattle.vector_store.proofs.VectorStoreRowStore.len.Goals as goal

pub returns : goal.returns
returns c = c.len.ensures ∙ c.self.inside.rows.ok.0 ∙ sym (len-contents c.self.inside.rows.items c.self.invariant) ∙ ap (λ (db : Database). len db) c.self.view_is
