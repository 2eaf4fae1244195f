use Rattle.std.proofs.Common.{rules, ◌≡◌, ◌∙◌, ap, ℕ, ◌+◌, not, length, Some, None, cond, ltb, eqb, Option}
use Rattle.std.specs.Option.{unwrap_or}
use Rattle.std.proofs.lemmas.Iterator.{YieldsList-from_slice}
use Rattle.std.proofs.lemmas.Iterator.Search.{position_from_yields_List}
use Rattle.std.proofs.lemmas.List.Sums.{prefix_len-le-length}
use borrow.Author.Tests.{tests}
use Rattle.executor.specs.Job.{Finished}
use Rattle.commit_order.specs.Turns.{first_of}
use Rattle.commit_order.proofs.Places.{first_or_all}
use Rattle.commit_order.proofs.first_behind.Goals as goal

pub returns : goal.returns
returns c =
    let first : c.position.result ≡ cond (ltb (first_of c.args.done.now (c.args.last + 1)) (length c.args.done.now)) (Some (first_of c.args.done.now (c.args.last + 1))) None =
    position_from_yields_List (λ (r : Finished). eqb r.job.gno (c.args.last + 1)) _ _ c.position.result c.position.ensures.ran (YieldsList-from_slice c.args.done.now cc)
    (λ x b q k. search (rules, tests)) in
    c.unwrap_or.ensures ∙ ap (λ (o : Option ℕ). unwrap_or o (length c.args.done.now)) first
    ∙ first_or_all _ _ (prefix_len-le-length (λ (r : Finished). not (eqb r.job.gno (c.args.last + 1))) c.args.done.now)
