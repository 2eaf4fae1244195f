use Rattle.std.proofs.Common.{◌+◌, ◌-◌, ◌≤◌, min, length, vec_len, vec_capacity}
use Rattle.script_text.proofs.Puts.{PutSoFar}
use Rattle.script_text.proofs.words.put_numbers.Given as goal

-- the numbers of the words so far stand there, and there is room for the rest
abbrev pub invariant-loop-word : goal.invariant-loop-word
invariant-loop-word l = record {
  few : l.count ≤ 16;
  put : PutSoFar l.fn.words l.words l.count l.fn.columns.items l.columns.items;
  room : vec_len l.columns + min (16 - l.count) (length l.words) ≤ vec_capacity l.columns;
}

abbrev pub decreases-loop-word : goal.decreases-loop-word
decreases-loop-word l = length l.words
