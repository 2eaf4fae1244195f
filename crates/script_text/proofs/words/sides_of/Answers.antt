use Rattle.script_text.proofs.WordLists.{no_sides, two_sides, many_sides}
use Rattle.script_text.proofs.words.sides_of.Goals as goal

pub returns-in_err-left : goal.returns-in_err-left
returns-in_err-left c = rw c.from_residual.ensures (no_sides c.args.word.now c.in_err-left.ensures.parts)

pub returns-in-Some : goal.returns-in-Some
returns-in-Some c = many_sides c.args.word.now c.in_ok-left.left.now c.in_ok-left.right.now c.in-Some.field-0.0.now c.in-Some.field-0.1.now c.in_ok-left.ensures.parts c.in-Some.ensures.parts

pub returns-in-None : goal.returns-in-None
returns-in-None c = two_sides c.args.word.now c.in_ok-left.left.now c.in_ok-left.right.now c.in_ok-left.ensures.parts c.in-None.ensures.parts
