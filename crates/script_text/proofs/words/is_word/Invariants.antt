use Rattle.std.proofs.Common.{◌≡◌, take}
use Rattle.script_text.proofs.words.is_word.Given as goal

-- so far they are the same
abbrev pub invariant-loop-i : goal.invariant-loop-i
invariant-loop-i l = record { same : take l.i l.word ≡ take l.i l.own }
