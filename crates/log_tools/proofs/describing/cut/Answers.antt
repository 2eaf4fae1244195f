use Rattle.std.proofs.Common.{◌∙◌, sym}
use Rattle.log_tools.proofs.HeadTexts.{line_there, split_there, line_nowhere}
use Rattle.log_tools.proofs.describing.cut.Goals as goal

pub returns-in-Some-clause-more : goal.returns-in-Some-clause-more
returns-in-Some-clause-more c = line_there c.args.text.now c.in-Some.at (sym c.place_of.ensures ∙ c.in-Some.is)

pub returns-in-Some-clause-split : goal.returns-in-Some-clause-split
returns-in-Some-clause-split c = split_there c.args.text.now c.in-Some.at (sym c.place_of.ensures ∙ c.in-Some.is)

pub returns-in-None-clause-last : goal.returns-in-None-clause-last
returns-in-None-clause-last c = line_nowhere c.args.text.now (sym c.place_of.ensures ∙ c.in-None.is)
