use Rattle.std.proofs.Common.{◌≡◌, take}
use Rattle.schema.specs.Flags.{flags_of}
use Rattle.rows.specs.Database.{writes}
use Rattle.relay.proofs.form.flags_of.Given as goal

abbrev pub invariant-loop-change : goal.invariant-loop-change
invariant-loop-change l = l.flags ≡ flags_of l.schema (writes (take l.change-index l.changes))
