use Rattle.std.proofs.Common.{◌≡◌, ℤ, false, ◌&&◌, List, [], Option, is_none, sym, subst}
use Rattle.std.proofs.Math.Bool.{and-true, and-false}
use Rattle.vector_store.proofs.Finding.{before_found, before_absent, found_at, absent_at}
use Rattle.vector_store.proofs.put.look_up.Goals as goal

pub returns-in-Ok-clause-behind : goal.returns-in-Ok-clause-behind
returns-in-Ok-clause-behind c = before_found c.args.rows.now c.args.id c.in-Ok.place c.in-Ok.ensures

pub returns-in-Ok-clause-adds : goal.returns-in-Ok-clause-adds
returns-in-Ok-clause-adds c =
    subst (λ (o : Option (List ℤ)). false ≡ (c.args.is_set && is_none o)) (found_at c.args.rows.now c.args.id c.in-Ok.place (c.args.id, []) c.in-Ok.ensures) (sym (and-false c.args.is_set))

pub returns-in-Err-clause-behind : goal.returns-in-Err-clause-behind
returns-in-Err-clause-behind c = before_absent c.args.rows.now c.args.id c.in-Err.place c.in-Err.ensures

pub returns-in-Err-clause-adds : goal.returns-in-Err-clause-adds
returns-in-Err-clause-adds c =
    subst (λ (o : Option (List ℤ)). c.args.is_set ≡ (c.args.is_set && is_none o)) (absent_at c.args.rows.now c.args.id c.in-Err.place c.in-Err.ensures) (sym (and-true c.args.is_set))
