use Rattle.std.proofs.Common.{rules, ◌≡◌, ◌∙◌, ap, ℕ, not, length, Some, None, cond, ltb, arith, eqb, Option}
use Rattle.std.specs.Option.{unwrap_or}
use Rattle.std.specs.List.{position_or_len}
use Rattle.std.proofs.lemmas.Iterator.{YieldsList-from_slice}
use Rattle.std.proofs.lemmas.Iterator.Search.{position_from_yields_List}
use Rattle.std.proofs.lemmas.List.Sums.{prefix_len-le-length}
use borrow.Author.Tests.{tests}
use Rattle.commit_order.proofs.Lines.{position_within}
use Rattle.commit_order.proofs.Places.{first_or_all}
use Rattle.commit_order.proofs.place_of.Goals as goal

pub returns-clause-value : goal.returns-clause-value
returns-clause-value c =
    let first : c.position.result ≡ cond (ltb (position_or_len (λ (n : ℕ). eqb n c.args.gno) c.args.gnos.now) (length c.args.gnos.now))
    (Some (position_or_len (λ (n : ℕ). eqb n c.args.gno) c.args.gnos.now)) None =
    position_from_yields_List (λ (n : ℕ). eqb n c.args.gno) _ _ c.position.result c.position.ensures.ran (YieldsList-from_slice c.args.gnos.now cc) (λ x b q k. search (rules, tests)) in
    c.unwrap_or.ensures ∙ ap (λ (o : Option ℕ). unwrap_or o (length c.args.gnos.now)) first ∙ first_or_all _ _ (prefix_len-le-length (λ (n : ℕ). not (eqb n c.args.gno)) c.args.gnos.now)

pub returns-clause-within : goal.returns-clause-within
returns-clause-within c =
    let value = returns-clause-value c in
    let within = position_within c.args.gnos.now c.args.gno c.requires in
    omega (arith, value, within)
