use Rattle.std.proofs.Common.{◌∙◌, sym}
use Rattle.schema.proofs.Faults.{fault_here, no_fault_here}
use Rattle.schema.proofs.first_table_fault.Goals as goal

pub returns-then-is_some : goal.returns-then-is_some
returns-then-is_some c =
    fault_here c.args.tables.now c.loop-i.i c.fault_at-fault.result _ c.loop-i-test.true c.fault_at-fault.ensures (sym c.is_some.ensures ∙ c.if-is_some.true) c.loop-i.invariant

pub loop-i-preserved : goal.loop-i-preserved
loop-i-preserved c =
    no_fault_here c.args.tables.now c.loop-i.i c.fault_at-fault.result _ c.loop-i-test.true c.fault_at-fault.ensures (sym c.is_some.ensures ∙ c.if-is_some.false) c.loop-i.invariant
