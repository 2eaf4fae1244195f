use Rattle.std.proofs.Common.{arith}
use Rattle.rows.proofs.Collected.{one_bit}
use Rattle.relay.proofs.form.power_of.Goals as goal

pub returns : goal.returns
returns c = one_bit c.args.column (omega arith)
