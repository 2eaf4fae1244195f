use Rattle.std.proofs.Common.{sym}
use Rattle.log_tools.proofs.HeadTexts.{stripped}
use Rattle.log_tools.proofs.describing.source_of.Goals as goal

pub returns-in-Ok : goal.returns-in-Ok
returns-in-Ok c = (c.in_ok-word.word.now, stripped c.args.line.now c.in_ok-word.word.now c.in_ok-word.ensures.cases.0 c.in_ok-word.ensures.cases.1, sym c.in-Ok.ensures.bytes)
