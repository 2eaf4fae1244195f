use Rattle.std.proofs.Common.{◌∙◌, sym}
use Rattle.gtid_set.proofs.NumberTexts.{no_number, number_parsed, number_past}
use Rattle.gtid_set.proofs.reading.number_of.Goals as goal

pub returns-then-not-is_number : goal.returns-then-not-is_number
returns-then-not-is_number c = sym (no_number c.args.text.now (sym c.if-not-is_number.ensures))

pub returns-in-Ok : goal.returns-in-Ok
returns-in-Ok c =
    c.up_to_max.ensures ∙ sym (number_parsed c.args.text.now c.parse.result c.in-Ok.number c.parse.ensures.value.0 (sym c.if-not-is_number.ensures) c.in-Ok.is)

pub returns-in-Err : goal.returns-in-Err
returns-in-Err c = sym (number_past c.args.text.now c.parse.result c.in-Err.field-0 c.parse.ensures.value.0 (sym c.if-not-is_number.ensures) c.in-Err.is)
