use Rattle.std.proofs.Common.{◌≡◌}
use Rattle.std.specs.Prelude.{◌==◌}
use Rattle.std.specs.List.{slice_split}
use Rattle.mtr.specs.Script.{said, said_by, script_of, Knows}
use Rattle.mtr.proofs.script.Script.fill.Given as goal

-- behind the lines so far, what is left says what the whole text does
abbrev pub invariant-loop-number : goal.invariant-loop-number
invariant-loop-number g l = Knows (g.R.Read.remaining l.fn.input) (g.R.Read.remaining l.input) (λ text rest. said_by (said l.self) l.number (slice_split (λ b. b == 10) rest) ≡ script_of text)
