use Rattle.std.proofs.Common.{◌≡◌, ◌++◌, take}
use Rattle.script_text.specs.Printing.{stamps_text}
use Rattle.script_text.proofs.printing.put_stamps.Given as goal

abbrev pub invariant-loop-sequence : goal.invariant-loop-sequence
invariant-loop-sequence l = l.out.items ≡ l.fn.out.items ++ stamps_text (take l.sequence-index l.stamps)
