use Rattle.std.proofs.Common.{◌∙◌, sym, ap, subst, ℤ, List, [], ◌∷◌, Some, None, rules, w64}
use Rattle.std.specs.Prelude.{FitsSigned}
use Rattle.std.specs.FinMap.{insert}
use Rattle.btree_store.specs.Contents.{contents_of, KeysFit}
use Rattle.btree_store.proofs.Maps.{contents-set}
use Rattle.btree_store.proofs.Steps.{KeysFit-put_batch}
use Rattle.btree_store.proofs.put.put_one.Goals as goal

pub returns-in_ok-insert-in-Some-clause-ok : goal.returns-in_ok-insert-in-Some-clause-ok
returns-in_ok-insert-in-Some-clause-ok c =
    let set = contents-set c.args.rows.now c.insert.new.self c.args.id c.in_ok-packed-in-Some.packed c.in_ok-insert-in-Some.ensures.updates.0 in
    rw c.in-Some.is (set ∙ ap (λ (columns : List ℤ). insert (contents_of c.args.rows.now) c.args.id columns) c.in_ok-packed-in-Some.ensures)

pub returns-in_ok-insert-in-Some-clause-keys : goal.returns-in_ok-insert-in-Some-clause-keys
returns-in_ok-insert-in-Some-clause-keys c = λ before.
    let fits : FitsSigned w64 c.args.id.key = search rules in
    let set = contents-set c.args.rows.now c.insert.new.self c.args.id c.in_ok-packed-in-Some.packed c.in_ok-insert-in-Some.ensures.updates.0
    ∙ ap (λ (columns : List ℤ). insert (contents_of c.args.rows.now) c.args.id columns) c.in_ok-packed-in-Some.ensures in
    subst KeysFit (sym set) (KeysFit-put_batch ((c.args.id, Some c.in-Some.row) ∷ []) (contents_of c.args.rows.now) (fits, tt) before)

pub returns-in-None-clause-keys : goal.returns-in-None-clause-keys
returns-in-None-clause-keys c = λ before.
    subst KeysFit (sym c.reset_row.ensures.reset) (KeysFit-put_batch ((c.args.id, None) ∷ []) (contents_of c.args.rows.now) (c.reset_row.ensures.key, tt) before)
