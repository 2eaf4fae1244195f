use Rattle.std.proofs.Common.{◌≡◌, [], take, drop}
use Rattle.schema.specs.Schema.{fault_from}
use Rattle.schema.proofs.first_table_fault.Given as goal

-- the tables so far have no fault
abbrev pub invariant-loop-i : goal.invariant-loop-i
invariant-loop-i l = fault_from l.tables (take l.i l.tables) (drop l.i l.tables) ≡ fault_from l.tables [] l.tables
