use Rattle.std.proofs.Common.{◌≡◌}
use Rattle.log_tools.specs.Head.{lines_of, said, said_by, head_lines}
use Rattle.log_tools.proofs.describing.Said.of.Given as goal

-- what is left says, after the lines so far, what the whole text does
abbrev pub invariant-loop-number : goal.invariant-loop-number
invariant-loop-number l = said_by (said l.said) l.number (lines_of l.rest) ≡ head_lines l.text
