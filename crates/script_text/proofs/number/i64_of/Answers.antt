use Rattle.std.proofs.Common.{◌∙◌, sym, ap, ◌∷◌}
use Rattle.script_text.specs.Number.{integer}
use Rattle.script_text.proofs.NumberTexts.{nothing_signed, integer_positive, integer_reads}
use Rattle.script_text.proofs.number.i64_of.Goals as goal

pub returns-in_err-first-clause-exact : goal.returns-in_err-first-clause-exact
returns-in_err-first-clause-exact c = c.from_residual.ensures ∙ nothing_signed c.args.text.now c.in_err-first.ensures.cases

pub returns-in_err-first-clause-reads : goal.returns-in_err-first-clause-reads
returns-in_err-first-clause-reads c = integer_reads _ _ (returns-in_err-first-clause-exact c)

pub returns-then-first-eq45-clause-exact : goal.returns-then-first-eq45-clause-exact
returns-then-first-eq45-clause-exact c = c.negative_of.ensures ∙ ap integer (sym (c.in_ok-first.ensures.cases.0 ∙ ap (λ b. b ∷ c.in_ok-first.digits.now) c.if-first-eq45.true))

pub returns-then-first-eq45-clause-reads : goal.returns-then-first-eq45-clause-reads
returns-then-first-eq45-clause-reads c = integer_reads _ _ (returns-then-first-eq45-clause-exact c)

pub returns-else-first-eq45-clause-exact : goal.returns-else-first-eq45-clause-exact
returns-else-first-eq45-clause-exact c =
    c.positive_of.ensures ∙ sym (integer_positive c.args.text.now (λ rest is. let same = sym is ∙ c.in_ok-first.ensures.cases.0 in c.if-first-eq45.false (sym (cc))))

pub returns-else-first-eq45-clause-reads : goal.returns-else-first-eq45-clause-reads
returns-else-first-eq45-clause-reads c = integer_reads _ _ (returns-else-first-eq45-clause-exact c)
