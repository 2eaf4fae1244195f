use Rattle.std.proofs.Common.{◌<◌, ◌^◌, arith}
use Rattle.relay.proofs.Referred.{not_named}
use Rattle.relay.proofs.form.named_value.Goals as goal

pub returns-then-column-ge16 : goal.returns-then-column-ge16
returns-then-column-ge16 c =
    let low : c.args.columns.now.mask < 2 ^ 16 = omega (arith, c.mask-bits.ensures.value) in
    not_named c.args.columns.now.mask c.args.column _ low (omega arith)
