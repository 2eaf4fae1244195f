use Rattle.std.proofs.Common.{◌∙◌}
use Rattle.script_text.proofs.NumberTexts.{no_positive, positive_read}
use Rattle.script_text.proofs.number.positive_of.Goals as goal

pub returns-in_err-u64_of : goal.returns-in_err-u64_of
returns-in_err-u64_of c = c.from_residual.ensures ∙ no_positive c.args.text.now c.in_err-u64_of.ensures.exact

pub returns : goal.returns
returns c = c.ok.ensures.value ∙ positive_read c.args.text.now c.in_ok-u64_of.field-0 c.try_from.result c.in_ok-u64_of.ensures.exact c.try_from.ensures
