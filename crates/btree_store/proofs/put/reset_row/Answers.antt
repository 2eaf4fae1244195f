use Rattle.std.proofs.Common.{◌∙◌, sym, ap, is_some}
use Rattle.std.proofs.lemmas.Bool.{cond-true, cond-false}
use Rattle.btree_store.specs.Contents.{contents_of}
use Rattle.btree_store.proofs.Maps.{get_row, contents-set, contents-removed}
use Rattle.btree_store.proofs.put.reset_row.Goals as goal

pub returns-in-None-clause-reset : goal.returns-in-None-clause-reset
returns-in-None-clause-reset c = rw c.in-None.is (contents-removed c.args.rows.now c.remove.new.self c.args.id c.remove.ensures.updates.0)

-- the row is there
pub returns-in-Some-get_mut-clause-reset : goal.returns-in-Some-get_mut-clause-reset
returns-in-Some-get_mut-clause-reset c =
    rw c.in-Some.is
    (contents-set c.args.rows.now (c.get_mut.follows.lender c.in-Some.row) c.args.id c.in-Some.row
    ((c.get_mut.follows.holds c.in-Some.row).3 (sym (ap is_some c.in-Some-get_mut.ensures.value))).0
    ∙ sym (cond-true _ _ _ (ap is_some (get_row c.args.rows.now c.args.id ∙ sym c.in-Some-get_mut.ensures.value))))

pub returns-in_default-clause-reset : goal.returns-in_default-clause-reset
returns-in_default-clause-reset c =
    rw c.in-Some.is
    (ap contents_of c.get_mut.follows.holds-at-none
    ∙ sym (cond-false _ _ _ (ap is_some (get_row c.args.rows.now c.args.id ∙ sym c.in_default.ensures.value))))
