use Rattle.std.proofs.Common.{◌∙◌, ◌^◌, sym, arith}
use Rattle.script_text.proofs.NumberTexts.{number_none, number_narrowed, number_reads}
use Rattle.script_text.proofs.number.u16_of.Goals as goal

pub returns-in_err-u64_of-clause-exact : goal.returns-in_err-u64_of-clause-exact
returns-in_err-u64_of-clause-exact c = rw c.from_residual.ensures (sym (number_none (2 ^ 16) (2 ^ 64) _ (omega arith) c.in_err-u64_of.ensures.exact))

pub returns-clause-exact : goal.returns-clause-exact
returns-clause-exact c = c.ok.ensures.value ∙ number_narrowed (2 ^ 16) (2 ^ 64) _ c.in_ok-u64_of.field-0 c.try_from.result c.in_ok-u64_of.ensures.exact c.try_from.ensures

pub returns-clause-reads : goal.returns-clause-reads
returns-clause-reads c = number_reads _ _ _ (omega arith) (returns-clause-exact c)
