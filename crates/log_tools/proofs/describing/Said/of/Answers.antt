use Rattle.std.proofs.Common.{◌≡◌, ◌∙◌, sym, ap, subst, [], ◌∷◌, ◌+◌, Some, None}
use Rattle.std.specs.Bool.{then_some}
use Rattle.std.specs.Option.{IfSome, IfNone}
use Rattle.log_tools.specs.Head.{said, said_with, said_by, lines_of}
use Rattle.log_tools.proofs.HeadTexts.{first_line, line_taken, line_refused, all_taken}
use Rattle.log_tools.proofs.describing.Said.of.Goals as goal

pub returns-then-not-branch : goal.returns-then-not-branch
returns-then-not-branch c =
    let line = c.cut.result.0.now in
    let front = first_line c.loop-number.rest.now line c.cut.result.1 c.cut.ensures.last c.cut.ensures.more in
    let bad : said_with (said c.loop-number.said) line ≡ None = c.in_ok-add.ensures.said ∙ ap (λ b. then_some b (said c.add.new.self)) c.if-not-branch.true in
    sym c.loop-number.invariant ∙ ap (said_by (said c.loop-number.said) c.loop-number.number) front.1 ∙ line_refused (said c.loop-number.said) c.loop-number.number line front.0 bad

pub returns-in-None : goal.returns-in-None
returns-in-None c =
    let line = c.cut.result.0.now in
    let last : lines_of c.loop-number.rest.now ≡ line ∷ [] = subst (λ m. IfNone m (lines_of c.loop-number.rest.now ≡ line ∷ [])) c.in-None.is c.cut.ensures.last in
    let good : said_with (said c.loop-number.said) line ≡ Some (said c.add.new.self) = c.in_ok-add.ensures.said ∙ ap (λ b. then_some b (said c.add.new.self)) c.if-not-branch.false in
    sym c.loop-number.invariant ∙ ap (said_by (said c.loop-number.said) c.loop-number.number) last
    ∙ line_taken (said c.loop-number.said) (said c.add.new.self) c.loop-number.number line [] good ∙ all_taken (said c.add.new.self) (c.loop-number.number + 1)

pub loop-number-preserved : goal.loop-number-preserved
loop-number-preserved c =
    let line = c.cut.result.0.now in
    let front : lines_of c.loop-number.rest.now ≡ line ∷ lines_of c.in-Some.more.now =
    subst (λ m. IfSome m (λ x. lines_of c.loop-number.rest.now ≡ line ∷ lines_of x.now)) c.in-Some.is c.cut.ensures.more in
    let good : said_with (said c.loop-number.said) line ≡ Some (said c.add.new.self) = c.in_ok-add.ensures.said ∙ ap (λ b. then_some b (said c.add.new.self)) c.if-not-branch.false in
    sym (line_taken (said c.loop-number.said) (said c.add.new.self) c.loop-number.number line (lines_of c.in-Some.more.now) good)
    ∙ sym (ap (said_by (said c.loop-number.said) c.loop-number.number) front) ∙ c.loop-number.invariant
