use Rattle.source_core.specs.Calls.{write_fault, written}
use Rattle.source_answers.proofs.Answered.{wrote}
use Rattle.source_answers.proofs.answering.answer.Goals as goal

pub returns-in-Write-clause-answers : goal.returns-in-Write-clause-answers
returns-in-Write-clause-answers g c =
    let s = c.args.source.now.source in
    rw (c.in-Write.is, c.done-in-Write.ensures)
    (wrote c.args.source.now c.write.new.self (write_fault s c.in-Write.session c.in-Write.change) (written s c.in-Write.session c.in-Write.change) c.write.result c.write.ensures.exact
    c.write.ensures.memory c.write.ensures.ok c.write.ensures.err)
