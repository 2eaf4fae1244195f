use Rattle.std.proofs.Common.{◌∙◌}
use Rattle.script_text.proofs.NumberTexts.{no_negative, minus_zero, negative_read}
use Rattle.script_text.proofs.number.negative_of.Goals as goal

pub returns-in_err-size : goal.returns-in_err-size
returns-in_err-size c = c.from_residual.ensures ∙ no_negative c.args.digits.now c.in_err-size.ensures.exact

pub returns-then-size-eq0 : goal.returns-then-size-eq0
returns-then-size-eq0 c = minus_zero c.args.digits.now c.in_ok-size.size c.in_ok-size.ensures.exact c.if-size-eq0.true

pub returns-else-size-eq0 : goal.returns-else-size-eq0
returns-else-size-eq0 c = negative_read c.args.digits.now c.in_ok-size.size c.checked_sub_unsigned.result c.in_ok-size.ensures.exact c.if-size-eq0.false c.checked_sub_unsigned.ensures
