use Rattle.std.proofs.Common.{◌≡◌, ◌≤◌, length, take}
use Rattle.script_text.specs.Number.{integer}
use Rattle.script_text.specs.Words.{all_in}
use Rattle.script_text.proofs.WordLists.{then_rest}
use Rattle.script_text.proofs.words.numbers_of.Given as goal

-- the items so far, and then those of the words that are left
abbrev pub invariant-loop-word : goal.invariant-loop-word
invariant-loop-word l = record { few : l.count ≤ length l.numbers; so_far : then_rest integer (take l.count l.numbers) l.words ≡ all_in integer l.fn.words }

abbrev pub decreases-loop-word : goal.decreases-loop-word
decreases-loop-word l = length l.words
