use Rattle.std.proofs.Common.{◌+◌, ◌-◌, ◌≤◌, min, length, vec_len, vec_capacity}
use Rattle.script_text.proofs.Puts.{NamedSoFar}
use Rattle.script_text.proofs.words.put_values.Given as goal

-- the values of the words so far stand there, and there is room for the rest
abbrev pub invariant-loop-word : goal.invariant-loop-word
invariant-loop-word l = record {
  put : NamedSoFar l.fn.words l.words l.least l.mask l.fn.columns.items l.columns.items;
  room : vec_len l.columns + min (16 - l.least) (length l.words) ≤ vec_capacity l.columns;
}

abbrev pub decreases-loop-word : goal.decreases-loop-word
decreases-loop-word l = length l.words
