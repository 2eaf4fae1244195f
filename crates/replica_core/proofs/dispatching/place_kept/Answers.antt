use Rattle.std.proofs.Common.{rules, ◌≡◌, ◌∙◌, ap, ℕ, ◌≤◌, ◌==◌, length, Some, None, cond, ltb, arith, not, Option}
use Rattle.std.specs.Option.{unwrap_or}
use Rattle.std.specs.List.{position_or_len}
use Rattle.std.proofs.lemmas.Iterator.{YieldsList-from_slice}
use Rattle.std.proofs.lemmas.Iterator.Search.{position_from_yields_List}
use Rattle.std.proofs.lemmas.List.Sums.{prefix_len-le-length}
use Rattle.std.proofs.lemmas.Bool.Decides.{nat_tests}
use borrow.Author.Tests.{tests}
use Rattle.replica_core.specs.declared.dispatching.HandedOut.{HandedOut}
use Rattle.replica_core.proofs.dispatching.place_kept.Goals as goal

first_or_all : (first all : ℕ) → first ≤ all → unwrap_or (cond (ltb first all) (Some first) None) all ≡ first
first_or_all first all h = grind (arith, nat_tests)

pub returns : goal.returns
returns c =
    let test = λ (kept : HandedOut). kept.gno == c.args.gno in
    let first : c.position.result ≡ cond (ltb (position_or_len test c.args.handed.now) (length c.args.handed.now)) (Some (position_or_len test c.args.handed.now)) None =
    position_from_yields_List test _ _ c.position.result c.position.ensures.ran (YieldsList-from_slice c.args.handed.now cc) (λ x b q k. search (rules, tests)) in
    c.unwrap_or.ensures ∙ ap (λ (o : Option ℕ). unwrap_or o (length c.args.handed.now)) first ∙ first_or_all _ _ (prefix_len-le-length (λ b. not (test b)) c.args.handed.now)
