use Rattle.std.proofs.Common.{ap, arith, length, length-append, length-drop, decimal}
use Rattle.script_text.proofs.ShortTexts.{few_digits}
use Rattle.script_text.proofs.short.Short.put_number.Goals as goal

pub write_digits-self-inside-requires : goal.write_digits-self-inside-requires
write_digits-self-inside-requires c =
    let wide = length-drop c.self.inside.start c.self.inside.bytes in
    grind (arith, wide, ap length c.self.view_is, few_digits c.args.n (omega arith))

pub returns-clause-few : goal.returns-clause-few
returns-clause-few c =
    let is = ap length c.write_digits-self-inside.ensures.written in
    let parts = length-append (decimal c.args.n) c.args.self.now in
    grind (arith, is, parts, ap length c.self.view_is, few_digits c.args.n (omega arith))
