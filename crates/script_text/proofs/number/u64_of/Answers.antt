use Rattle.std.proofs.Common.{◌∙◌, ◌^◌, arith}
use Rattle.script_text.proofs.NumberTexts.{nothing_read, plain_read, zero_read, padded_read, number_reads, nothing_left, some_left}
use Rattle.script_text.proofs.number.u64_of.Goals as goal

pub returns-in_err-first-clause-exact : goal.returns-in_err-first-clause-exact
returns-in_err-first-clause-exact c = c.from_residual.ensures ∙ nothing_read (2 ^ 64) c.args.text.now c.in_err-first.ensures.cases

pub returns-in_err-first-clause-reads : goal.returns-in_err-first-clause-reads
returns-in_err-first-clause-reads c = number_reads _ _ _ (omega arith) (returns-in_err-first-clause-exact c)

pub returns-then-first-ne48-clause-exact : goal.returns-then-first-ne48-clause-exact
returns-then-first-ne48-clause-exact c = c.value_of.ensures ∙ plain_read (2 ^ 64) c.args.text.now c.in_ok-first.rest.now _ c.in_ok-first.ensures.cases.0 c.if-first-ne48.true

pub returns-then-first-ne48-clause-reads : goal.returns-then-first-ne48-clause-reads
returns-then-first-ne48-clause-reads c = number_reads _ _ _ (omega arith) (returns-then-first-ne48-clause-exact c)

pub returns-then-is_empty-clause-exact : goal.returns-then-is_empty-clause-exact
returns-then-is_empty-clause-exact c =
    zero_read (2 ^ 64) c.args.text.now c.in_ok-first.rest.now _ (omega arith) c.in_ok-first.ensures.cases.0 c.if-first-ne48.false (nothing_left _ c.if-is_empty.ensures)

pub returns-then-is_empty-clause-reads : goal.returns-then-is_empty-clause-reads
returns-then-is_empty-clause-reads c = number_reads _ _ _ (omega arith) (returns-then-is_empty-clause-exact c)

pub returns-else-is_empty-clause-exact : goal.returns-else-is_empty-clause-exact
returns-else-is_empty-clause-exact c =
    padded_read (2 ^ 64) c.args.text.now c.in_ok-first.rest.now _ c.in_ok-first.ensures.cases.0 c.if-first-ne48.false (some_left _ c.if-is_empty.ensures)

pub returns-else-is_empty-clause-reads : goal.returns-else-is_empty-clause-reads
returns-else-is_empty-clause-reads c = number_reads _ _ _ (omega arith) (returns-else-is_empty-clause-exact c)
