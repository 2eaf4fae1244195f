use Rattle.std.proofs.Common.{◌∙◌, sym, subst}
use Rattle.btree_store.specs.Contents.{contents_of, KeysFit}
use Rattle.btree_store.proofs.Steps.{KeysFit-put_batch}
use Rattle.btree_store.proofs.put.put_several.Goals as goal

pub returns-clause-keys : goal.returns-clause-keys
returns-clause-keys c = λ before.
    subst KeysFit (sym (c.remove_rows.ensures.put ∙ c.in_default.ensures.same)) (KeysFit-put_batch c.args.entries.now (contents_of c.args.rows.now) c.remove_rows.ensures.keys before)
